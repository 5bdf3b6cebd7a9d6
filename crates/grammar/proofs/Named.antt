-- Where a text spells a source, each use of a name stands at the offset of its token.
use Rattle.std.proofs.Common.{◌≡◌, ℕ, suc, ◌+◌, List, [], ◌∷◌, ◌++◌, length, codes, sym, refl, ap, ◌∙◌, arith}
use Rattle.lexer.specs.Lexemes.{Lexeme, word, mark, token, Reader}
use Rattle.lexer.specs.declared.mark.Mark.TheVariants.{Close}
use Rattle.grammar.specs.Sources.{Plain, skips, assigns, assumes, calls, returns, posts, yields, zields, Block, stop, plain, branch, loop, Procedure, Main, Source}
use Rattle.grammar.specs.Spelling.{spelt_expr, spelt_plain, braced, spelt_block, spelt_procedures, spelt_mains, spelt_sizes, spelt_rest, spelt_values, spelt_aims, spelt_bounds}
use Rattle.grammar.specs.Results.{Reads}
use Rattle.grammar.specs.Uses.{Use, uses_plain, uses_block, uses_procedures, uses_mains, uses, offset}
use Rattle.grammar.specs.Laws.{Spells}
use Rattle.grammar.proofs.Joining.{split}

-- Each of some uses stands at its token.
abbrev pub AllNamed : Reader → List Use → Type 0
AllNamed r [] = Unit {0}
AllNamed r (u ∷ us) = (r.look (offset r u.token) ≡ token (word u.name)) × AllNamed r us

module _ (r : Reader) where
  both : (us vs : List Use) → AllNamed r us → AllNamed r vs → AllNamed r (us ++ vs)
  both [] vs h k = k
  both (u ∷ us) vs h k = (h.0, both us vs h.1 k)

  -- Offsets and numbers go on together.
  step : (k a : ℕ) → a ≡ offset r k → r.next a ≡ offset r (suc k)
  unfolding offset
  step k a e = ap (λ x. r.next x) e

  moved : (k m a : ℕ) → a ≡ offset r k → k ≡ m → a ≡ offset r m
  moved k m a e q = e ∙ ap (offset r) q

  past : (ts : List Lexeme) (k a b : ℕ) → a ≡ offset r k → Reads r a ts b → b ≡ offset r (k + length ts)
  past [] k a b e h = moved k (k + length {A = Lexeme} []) b (sym h ∙ e) (omega arith)
  past (t ∷ ts) k a b e h =
      moved (suc k + length ts) (k + length (t ∷ ts)) b (past ts (suc k) (r.next a) b (step k a e) h.1) (omega arith)

  here : (k a : ℕ) (t : Lexeme) → a ≡ offset r k → r.look a ≡ token t → r.look (offset r k) ≡ token t
  here k a t e l = ap (λ x. r.look x) (sym e) ∙ l

  plain_named : (s : Plain) (k a b : ℕ) → a ≡ offset r k → Reads r a (spelt_plain s) b → AllNamed r (uses_plain k s)
  plain_named skips k a b e h = tt
  plain_named (assigns v x) k a b e h = tt
  plain_named (assumes x) k a b e h = tt
  plain_named (calls v p x) k a b e h =
      let a₃ = r.next (r.next (r.next a)) in
      let e₃ = step (suc (suc k)) (r.next (r.next a)) (step (suc k) (r.next a) (step k a e)) in
      (here (k + 3) a₃ (word p) (moved (suc (suc (suc k))) (k + 3) a₃ e₃ (omega arith)) h.1.1.1.0, tt)
  plain_named (returns x) k a b e h = tt
  plain_named (posts m p x) k a b e h =
      let a₂ = r.next (r.next a) in
      let e₂ = step (suc k) (r.next a) (step k a e) in
      (here (k + 2) a₂ (word p) (moved (suc (suc k)) (k + 2) a₂ e₂ (omega arith)) h.1.1.0, tt)
  plain_named yields k a b e h = tt
  plain_named zields k a b e h = tt

  block_named : (s : Block) (k a b : ℕ) → a ≡ offset r k → Reads r a (spelt_block s) b → AllNamed r (uses_block k s)
  block_named stop k a b e h = tt
  block_named (plain s rest) k a b e h =
      split r (spelt_plain s) (spelt_block rest) a b h
      (λ c p q. both (uses_plain k s) (uses_block (k + length (spelt_plain s)) rest) (plain_named s k a c e p) (block_named rest (k + length (spelt_plain s)) c b (past (spelt_plain s) k a c e p) q))
  block_named (branch x s u rest) k a b e h =
      let els = word (codes "else") in
      let n = length (spelt_expr x) in
      let l = length (spelt_block s) in
      let m = length (spelt_block u) in
      split r (spelt_expr x) (braced (spelt_block s) ++ (els ∷ (braced (spelt_block u) ++ spelt_block rest))) (r.next a) b h.1
      (λ c p₁ q₁. split r (braced (spelt_block s)) (els ∷ (braced (spelt_block u) ++ spelt_block rest)) c b q₁
      (λ d p₂ q₂. split r (braced (spelt_block u)) (spelt_block rest) (r.next d) b q₂.1
      (λ y p₃ q₃. split r (spelt_block s) (mark Close ∷ []) (r.next c) d p₂.1
      (λ v p₄ q₄. split r (spelt_block u) (mark Close ∷ []) (r.next (r.next d)) y p₃.1
      (λ w p₅ q₅. let ec = past (spelt_expr x) (suc k) (r.next a) c (step k a e) p₁ in
      let es = moved (suc (suc k + n)) (k + n + 2) (r.next c) (step (suc k + n) c ec) (omega arith) in
      let ev = past (spelt_block s) (k + n + 2) (r.next c) v es p₄ in
      let ed = sym q₄.1 ∙ step (k + n + 2 + l) v ev in
      let eu = moved (suc (suc (suc (k + n + 2 + l)))) (k + n + l + 5) (r.next (r.next d)) (step (suc (suc (k + n + 2 + l))) (r.next d) (step (suc (k + n + 2 + l)) d ed)) (omega arith) in
      let ew = past (spelt_block u) (k + n + l + 5) (r.next (r.next d)) w eu p₅ in
      let ey = moved (suc (k + n + l + 5 + m)) (k + n + l + m + 6) y (sym q₅.1 ∙ step (k + n + l + 5 + m) w ew) (omega arith) in
      both (uses_block (k + n + 2) s) (uses_block (k + n + l + 5) u ++ uses_block (k + n + l + m + 6) rest) (block_named s (k + n + 2) (r.next c) v es p₄) (both (uses_block (k + n + l + 5) u) (uses_block (k + n + l + m + 6) rest) (block_named u (k + n + l + 5) (r.next (r.next d)) w eu p₅) (block_named rest (k + n + l + m + 6) y b ey q₃)))))))
  block_named (loop x s rest) k a b e h =
      let n = length (spelt_expr x) in
      let l = length (spelt_block s) in
      split r (spelt_expr x) (braced (spelt_block s) ++ spelt_block rest) (r.next a) b h.1
      (λ c p₁ q₁. split r (braced (spelt_block s)) (spelt_block rest) c b q₁
      (λ d p₂ q₂. split r (spelt_block s) (mark Close ∷ []) (r.next c) d p₂.1
      (λ v p₄ q₄. let ec = past (spelt_expr x) (suc k) (r.next a) c (step k a e) p₁ in
      let es = moved (suc (suc k + n)) (k + n + 2) (r.next c) (step (suc k + n) c ec) (omega arith) in
      let ev = past (spelt_block s) (k + n + 2) (r.next c) v es p₄ in
      let ed = moved (suc (k + n + 2 + l)) (k + n + l + 3) d (sym q₄.1 ∙ step (k + n + 2 + l) v ev) (omega arith) in
      both (uses_block (k + n + 2) s) (uses_block (k + n + l + 3) rest) (block_named s (k + n + 2) (r.next c) v es p₄) (block_named rest (k + n + l + 3) d b ed q₂))))

  procedures_named : (ps : List Procedure) (k a b : ℕ) → a ≡ offset r k → Reads r a (spelt_procedures ps) b → AllNamed r (uses_procedures k ps)
  procedures_named [] k a b e h = tt
  procedures_named (p ∷ ps) k a b e h =
      let a₂ = r.next (r.next a) in
      let l = length (spelt_block p.body) in
      split r (braced (spelt_block p.body)) (spelt_procedures ps) a₂ b h.1.1
      (λ c p₁ q₁. split r (spelt_block p.body) (mark Close ∷ []) (r.next a₂) c p₁.1
      (λ v p₂ q₂. let es = moved (suc (suc (suc k))) (k + 3) (r.next a₂) (step (suc (suc k)) a₂ (step (suc k) (r.next a) (step k a e))) (omega arith) in
      let ev = past (spelt_block p.body) (k + 3) (r.next a₂) v es p₂ in
      let ec = moved (suc (k + 3 + l)) (k + l + 4) c (sym q₂.1 ∙ step (k + 3 + l) v ev) (omega arith) in
      both (uses_block (k + 3) p.body) (uses_procedures (k + l + 4) ps) (block_named p.body (k + 3) (r.next a₂) v es p₂) (procedures_named ps (k + l + 4) c b ec q₁)))

  mains_named : (ms : List Main) (k a b : ℕ) → a ≡ offset r k → Reads r a (spelt_mains ms) b → AllNamed r (uses_mains k ms)
  mains_named [] k a b e h = tt
  mains_named (m ∷ ms) k a b e h =
      let a₂ = r.next (r.next a) in
      let l = length (spelt_block m.body) in
      split r (braced (spelt_block m.body)) (spelt_mains ms) a₂ b h.1.1
      (λ c p₁ q₁. split r (spelt_block m.body) (mark Close ∷ []) (r.next a₂) c p₁.1
      (λ v p₂ q₂. let es = moved (suc (suc (suc k))) (k + 3) (r.next a₂) (step (suc (suc k)) a₂ (step (suc k) (r.next a) (step k a e))) (omega arith) in
      let ev = past (spelt_block m.body) (k + 3) (r.next a₂) v es p₂ in
      let ec = moved (suc (k + 3 + l)) (k + l + 4) c (sym q₂.1 ∙ step (k + 3 + l) v ev) (omega arith) in
      both (uses_block (k + 3) m.body) (uses_mains (k + l + 4) ms) (block_named m.body (k + 3) (r.next a₂) v es p₂) (mains_named ms (k + l + 4) c b ec q₁)))

  begins : r.first ≡ offset r 0
  unfolding offset
  begins = refl

  -- Each use of a name in a source that is spelt stands at the offset of its token.
  pub uses_named : (s : Source) (b : ℕ) → Spells r s b → AllNamed r (uses s)
  unfolding uses
  uses_named s b h =
      let t₃ = word (codes "from") ∷ (spelt_values s.from ++ (word (codes "goal") ∷ (spelt_aims s.goal ++ spelt_bounds s.bounds))) in
      let n = length (spelt_procedures s.procedures) in
      split r (spelt_sizes s) (spelt_rest s) r.first b h.tokens
      (λ a p₁ q₁. split r (spelt_procedures s.procedures) (spelt_mains s.mains ++ t₃) a b q₁
      (λ c p₂ q₂. split r (spelt_mains s.mains) t₃ c b q₂
      (λ d p₃ _. let ea = moved (0 + length (spelt_sizes s)) 8 a (past (spelt_sizes s) 0 r.first a begins p₁) (omega arith) in
      let ec = past (spelt_procedures s.procedures) 8 a c ea p₂ in
      both (uses_procedures 8 s.procedures) (uses_mains (8 + n) s.mains) (procedures_named s.procedures 8 a c ea p₂) (mains_named s.mains (8 + n) c d ec p₃))))
