-- A whole text that is read is spelt, and keeps the rules.
use Rattle.std.proofs.Common.{◌≡◌, ℕ, List, [], ◌∷◌, ◌++◌, codes, sym, arith}
use Rattle.lexer.specs.Lexemes.{word, number, end, token, Reader}
use Rattle.grammar.specs.Tokens.{value}
use Rattle.grammar.specs.Sources.{sizes_from, procedure_places, Source}
use Rattle.grammar.specs.Spelling.{spelt_procedures, spelt_mains, spelt_values, spelt_aims, spelt_bounds, spelt_numbers, spelt}
use Rattle.grammar.specs.Rules.{Within, Keeps}
use Rattle.grammar.specs.Results.{ok, then, expect, Reads}
use Rattle.grammar.specs.ReadText.{sized, some_procedures, some_mains, some_values, some_aims, some_bounds, text_rest, a_text}
use Rattle.grammar.proofs.Joining.{then_ok, ok_piece, join, expect_sound}
use Rattle.grammar.proofs.Parts.{sized_sound, procedures_sound, mains_sound, values_sound, aims_sound, bounds_sound}

module _ (r : Reader) where
  rest_sound : (v g n m : List ℕ) (a₀ a b : ℕ) (s : Source) → Reads r a₀ (spelt_numbers v g n m) a → Within 2 16 v → Within 1 8 g → Within 1 3 n → Within 1 4 m → text_rest r v g n m a ≡ ok s b → Reads r a₀ (spelt s) b × (r.look b ≡ token end) × Keeps s
  unfolding text_rest
  rest_sound v g n m a₀ a b s h₀ wv wg wn wm e =
      then_ok (some_procedures r (sizes_from v g n m) 16 [] 0 a) (λ ps b₁. then (some_mains r (sizes_from v g n m) (value n) 0 (procedure_places ps) b₁) (λ ms b₂. then (expect r (word (codes "from")) b₂) (λ o₃ b₃. then (some_values r (value v) (value g) b₃) (λ fs b₄. then (expect r (word (codes "goal")) b₄) (λ o₅ b₅. then (some_aims r (value v) (value g) b₅) (λ gs b₆. then (some_bounds r 4 b₆) (λ bs b₇. then (expect r end b₇) (λ o₈ b₈. ok (record { values = v; globals = g; buffers = n; levels = m; procedures = ps; mains = ms; from = fs; goal = gs; bounds = bs }) b₇)))))))) s b e
      (λ ps b₁ f₁ h₁. then_ok (some_mains r (sizes_from v g n m) (value n) 0 (procedure_places ps) b₁) (λ ms b₂. then (expect r (word (codes "from")) b₂) (λ o₃ b₃. then (some_values r (value v) (value g) b₃) (λ fs b₄. then (expect r (word (codes "goal")) b₄) (λ o₅ b₅. then (some_aims r (value v) (value g) b₅) (λ gs b₆. then (some_bounds r 4 b₆) (λ bs b₇. then (expect r end b₇) (λ o₈ b₈. ok (record { values = v; globals = g; buffers = n; levels = m; procedures = ps; mains = ms; from = fs; goal = gs; bounds = bs }) b₇))))))) s b h₁
      (λ ms b₂ f₂ h₂. then_ok (expect r (word (codes "from")) b₂) (λ o₃ b₃. then (some_values r (value v) (value g) b₃) (λ fs b₄. then (expect r (word (codes "goal")) b₄) (λ o₅ b₅. then (some_aims r (value v) (value g) b₅) (λ gs b₆. then (some_bounds r 4 b₆) (λ bs b₇. then (expect r end b₇) (λ o₈ b₈. ok (record { values = v; globals = g; buffers = n; levels = m; procedures = ps; mains = ms; from = fs; goal = gs; bounds = bs }) b₇)))))) s b h₂
      (λ o₃ b₃ f₃ h₃. then_ok (some_values r (value v) (value g) b₃) (λ fs b₄. then (expect r (word (codes "goal")) b₄) (λ o₅ b₅. then (some_aims r (value v) (value g) b₅) (λ gs b₆. then (some_bounds r 4 b₆) (λ bs b₇. then (expect r end b₇) (λ o₈ b₈. ok (record { values = v; globals = g; buffers = n; levels = m; procedures = ps; mains = ms; from = fs; goal = gs; bounds = bs }) b₇))))) s b h₃
      (λ fs b₄ f₄ h₄. then_ok (expect r (word (codes "goal")) b₄) (λ o₅ b₅. then (some_aims r (value v) (value g) b₅) (λ gs b₆. then (some_bounds r 4 b₆) (λ bs b₇. then (expect r end b₇) (λ o₈ b₈. ok (record { values = v; globals = g; buffers = n; levels = m; procedures = ps; mains = ms; from = fs; goal = gs; bounds = bs }) b₇)))) s b h₄
      (λ o₅ b₅ f₅ h₅. then_ok (some_aims r (value v) (value g) b₅) (λ gs b₆. then (some_bounds r 4 b₆) (λ bs b₇. then (expect r end b₇) (λ o₈ b₈. ok (record { values = v; globals = g; buffers = n; levels = m; procedures = ps; mains = ms; from = fs; goal = gs; bounds = bs }) b₇))) s b h₅
      (λ gs b₆ f₆ h₆. then_ok (some_bounds r 4 b₆) (λ bs b₇. then (expect r end b₇) (λ o₈ b₈. ok (record { values = v; globals = g; buffers = n; levels = m; procedures = ps; mains = ms; from = fs; goal = gs; bounds = bs }) b₇)) s b h₆
      (λ bs b₇ f₇ h₇. then_ok (expect r end b₇) (λ o₈ b₈. ok (record { values = v; globals = g; buffers = n; levels = m; procedures = ps; mains = ms; from = fs; goal = gs; bounds = bs }) b₇) s b h₇
      (λ o₈ b₈ f₈ h₈. let p = ok_piece (record { values = v; globals = g; buffers = n; levels = m; procedures = ps; mains = ms; from = fs; goal = gs; bounds = bs }) s b₇ b h₈ in
      let i₁ = procedures_sound r (sizes_from v g n m) 16 [] 0 a b₁ ps (omega arith) f₁ in
      let fit₁ = i₁.3 in
      let i₂ = mains_sound r (sizes_from v g n m) (value n) 0 (procedure_places ps) b₁ b₂ ms (omega arith) f₂ in
      let i₃ = expect_sound r (word (codes "from")) b₂ b₃ o₃ f₃ in
      let i₄ = values_sound r (value v) (value g) b₃ b₄ fs f₄ in
      let i₅ = expect_sound r (word (codes "goal")) b₄ b₅ o₅ f₅ in
      let i₆ = aims_sound r (value v) (value g) b₅ b₆ gs f₆ in
      let i₇ = bounds_sound r 4 b₆ b₇ bs f₇ in
      let i₈ = expect_sound r end b₇ b₈ o₈ f₈ in
      let j₆ = join r (spelt_aims gs) (spelt_bounds bs) b₅ b₆ b₇ i₆.0 i₇.0 in
      let j₅ = join r (word (codes "goal") ∷ []) (spelt_aims gs ++ spelt_bounds bs) b₄ b₅ b₇ i₅ j₆ in
      let t₅ = word (codes "goal") ∷ (spelt_aims gs ++ spelt_bounds bs) in
      let j₄ = join r (spelt_values fs) t₅ b₃ b₄ b₇ i₄.0 j₅ in
      let j₃ = join r (word (codes "from") ∷ []) (spelt_values fs ++ t₅) b₂ b₃ b₇ i₃ j₄ in
      let t₃ = word (codes "from") ∷ (spelt_values fs ++ t₅) in
      let j₂ = join r (spelt_mains ms) t₃ b₁ b₂ b₇ i₂.0 j₃ in
      let j₁ = join r (spelt_procedures ps) (spelt_mains ms ++ t₃) a b₁ b₇ i₁.0 j₂ in
      rw (sym p.0, sym p.1) (join r (spelt_numbers v g n m) (spelt_procedures ps ++ (spelt_mains ms ++ t₃)) a₀ a b₇ h₀ j₁, i₈.0, record { values = wv; globals = wg; buffers = wn; levels = wm; procedures = i₁.1; few_procedures = i₁.2; mains = i₂.1; each_main = i₂.2; places = i₂.3; from = i₄.1; each_from = i₄.2; goal = i₆.1; each_goal = i₆.2; bounds = i₇.1; few_bounds = i₇.2 })))))))))

  -- What is read is spelt from the first offset to the end, and keeps the rules.
  pub text_sound : (s : Source) (b : ℕ) → a_text r ≡ ok s b → Reads r r.first (spelt s) b × (r.look b ≡ token end) × Keeps s
  unfolding a_text
  text_sound s b e =
      then_ok (sized r (codes "values") 2 16 r.first) (λ v a. then (sized r (codes "globals") 1 8 a) (λ g c. then (sized r (codes "buffers") 1 3 c) (λ n d. then (sized r (codes "levels") 1 4 d) (λ m x. text_rest r v g n m x)))) s b e
      (λ v a f₁ h₁. then_ok (sized r (codes "globals") 1 8 a) (λ g c. then (sized r (codes "buffers") 1 3 c) (λ n d. then (sized r (codes "levels") 1 4 d) (λ m x. text_rest r v g n m x))) s b h₁
      (λ g c f₂ h₂. then_ok (sized r (codes "buffers") 1 3 c) (λ n d. then (sized r (codes "levels") 1 4 d) (λ m x. text_rest r v g n m x)) s b h₂
      (λ n d f₃ h₃. then_ok (sized r (codes "levels") 1 4 d) (λ m x. text_rest r v g n m x) s b h₃
      (λ m x f₄ h₄. let i₁ = sized_sound r (codes "values") 2 16 r.first a v f₁ in
      let i₂ = sized_sound r (codes "globals") 1 8 a c g f₂ in
      let i₃ = sized_sound r (codes "buffers") 1 3 c d n f₃ in
      let i₄ = sized_sound r (codes "levels") 1 4 d x m f₄ in
      let t₄ = word (codes "levels") ∷ number m ∷ [] in
      let t₃ = word (codes "buffers") ∷ number n ∷ t₄ in
      let t₂ = word (codes "globals") ∷ number g ∷ t₃ in
      let j₃ = join r (word (codes "buffers") ∷ number n ∷ []) t₄ c d x i₃.0 i₄.0 in
      let j₂ = join r (word (codes "globals") ∷ number g ∷ []) t₃ a c x i₂.0 j₃ in
      let j₁ = join r (word (codes "values") ∷ number v ∷ []) t₂ r.first a x i₁.0 j₂ in
      rest_sound v g n m r.first x b s j₁ i₁.1 i₂.1 i₃.1 i₄.1 h₄))))
