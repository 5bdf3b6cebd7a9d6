-- A whole text that is spelt, and keeps the rules, is read; so a text spells one source at most.
use Rattle.std.proofs.Common.{◌≡◌, ℕ, ◌+◌, ◌≤◌, List, [], ◌∷◌, ◌++◌, length, codes, sym, refl, ◌∙◌, arith}
use Rattle.lexer.specs.Lexemes.{word, end, token, Reader}
use Rattle.grammar.specs.Tokens.{value}
use Rattle.grammar.specs.Sources.{Main, sizes_of, procedure_places, main_places, Source}
use Rattle.grammar.specs.Spelling.{spelt_procedures, spelt_mains, spelt_values, spelt_aims, spelt_bounds, spelt_rest, spelt}
use Rattle.grammar.specs.Rules.{Keeps}
use Rattle.grammar.specs.Results.{ok, Reads}
use Rattle.grammar.specs.ReadText.{text_rest, a_text}
use Rattle.grammar.proofs.Joining.{ok_piece, split, expect_complete}
use Rattle.grammar.proofs.PartsBack.{sized_complete, procedures_complete, mains_complete, values_complete, aims_complete, bounds_complete}

module _ (r : Reader) where
  -- Where a main must come, its word stands.
  main_first : (ms : List Main) (a b : ℕ) → 1 ≤ length ms → Reads r a (spelt_mains ms) b → r.look a ≡ token (word (codes "main"))
  main_first [] a b lt h = absurd (omega arith)
  main_first (m ∷ ms) a b lt h = h.0

  rest_complete : (s : Source) (a b : ℕ) → Reads r a (spelt_rest s) b → r.look b ≡ token end → Keeps s → text_rest r s.values s.globals s.buffers s.levels a ≡ ok s b
  unfolding text_rest
  rest_complete s a b h l k =
      let t₅ = word (codes "goal") ∷ (spelt_aims s.goal ++ spelt_bounds s.bounds) in
      let t₃ = word (codes "from") ∷ (spelt_values s.from ++ t₅) in
      let one : 1 ≤ length s.mains = omega (arith, k.each_main, k.buffers.least) in
      let fits : procedure_places s.procedures + main_places s.mains ≤ 200 = k.places in
      split r (spelt_procedures s.procedures) (spelt_mains s.mains ++ t₃) a b h
      (λ b₁ p₁ q₁. split r (spelt_mains s.mains) t₃ b₁ b q₁
      (λ b₂ p₂ q₂. split r (spelt_values s.from) t₅ (r.next b₂) b q₂.1
      (λ b₄ p₄ q₄. split r (spelt_aims s.goal) (spelt_bounds s.bounds) (r.next b₄) b q₄.1
      (λ b₆ p₆ q₆. rw (procedures_complete r (sizes_of s) k.globals.most s.procedures (word (codes "main")) 16 [] 0 a b₁ p₁ (main_first s.mains b₁ b₂ one p₂) refl k.procedures k.few_procedures (omega arith), mains_complete r (sizes_of s) k.globals.most s.mains (value s.buffers) 0 (procedure_places s.procedures) b₁ b₂ p₂ k.mains k.each_main fits, expect_complete r (word (codes "from")) b₂ q₂.0, values_complete r (value s.values) s.from (value s.globals) (r.next b₂) b₄ p₄ k.from k.each_from, expect_complete r (word (codes "goal")) b₄ q₄.0, aims_complete r (value s.values) s.goal (value s.globals) (r.next b₄) b₆ p₆ k.goal k.each_goal, bounds_complete r s.bounds end 4 b₆ b q₆ l refl k.bounds k.few_bounds, expect_complete r end b l)))))

  -- What is spelt from the first offset to the end, and keeps the rules, is read.
  pub text_complete : (s : Source) (b : ℕ) → Reads r r.first (spelt s) b → r.look b ≡ token end → Keeps s → a_text r ≡ ok s b
  unfolding a_text
  text_complete s b h l k =
      let a₁ = r.next (r.next r.first) in
      let a₂ = r.next (r.next a₁) in
      let a₃ = r.next (r.next a₂) in
      rw (sized_complete r (codes "values") 2 16 r.first s.values h.0 h.1.0 k.values, sized_complete r (codes "globals") 1 8 a₁ s.globals h.1.1.0 h.1.1.1.0 k.globals, sized_complete r (codes "buffers") 1 3 a₂ s.buffers h.1.1.1.1.0 h.1.1.1.1.1.0 k.buffers, sized_complete r (codes "levels") 1 4 a₃ s.levels h.1.1.1.1.1.1.0 h.1.1.1.1.1.1.1.0 k.levels) (rest_complete s (r.next (r.next a₃)) b h.1.1.1.1.1.1.1.1 l k)

  -- Two sources that one text spells are equal.
  pub one_source : (s u : Source) (b c : ℕ) → Reads r r.first (spelt s) b → r.look b ≡ token end → Keeps s → Reads r r.first (spelt u) c → r.look c ≡ token end → Keeps u → s ≡ u
  one_source s u b c h l k i m n =
      (ok_piece s u b c (sym (text_complete s b h l k) ∙ text_complete u c i m n)).0
