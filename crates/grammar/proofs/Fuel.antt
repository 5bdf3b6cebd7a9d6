-- Fuel past the places that are left is never used up: with enough, any fuel reads the same.
use Rattle.std.proofs.Common.{◌≡◌, ℕ, zero, suc, ◌+◌, ◌<◌, ◌≤◌, Bool, true, false, ltb, codes, sym, refl, ap, ◌∙◌, arith}
use Rattle.std.proofs.lemmas.Bool.{ltb-true}
use Rattle.lexer.specs.Lexemes.{Lexeme, word, mark, Seen, token, long_row, stranger, Reader}
use Rattle.lexer.specs.declared.mark.Mark.TheVariants.{Open, Close}
use Rattle.grammar.specs.Tokens.{same, Key, on_skip, on_assume, on_if, on_while, on_call, on_return, on_post, on_yield, on_zield}
use Rattle.grammar.specs.Sources.{Plain, skips, assumes, returns, yields, zields, Block, stop, plain, branch, loop, size, Sizes}
use Rattle.grammar.specs.Results.{Outcome, ok, bad, then, guard, on_seen, expect}
use Rattle.grammar.specs.ReadExpr.{ranged, an_expr}
use Rattle.grammar.specs.ReadBlock.{Opening, begins, sets, closes, nothing, opening, ended, ended_expr, set_rest, call_rest, post_rest, Blocks, deeper, inner_block, followed, branch_rest, loop_rest, keyed, statement_from, statement_at, statements}
use Rattle.grammar.proofs.Joining.{then_ok, guard_ok, seeing_ok, ok_piece}
use Rattle.grammar.proofs.Blocks.{deeper_ok}

-- Readings whose parts are the same are the same.
then_same : {A B : Type 0} (p q : Outcome A) (f g : A → ℕ → Outcome B) → p ≡ q → ((x : A) (b : ℕ) → p ≡ ok x b → f x b ≡ g x b) → then p f ≡ then q g
then_same (ok x b) q f g e h = h x b refl ∙ ap (λ o. then o g) e
then_same (bad n a) q f g e h = ap (λ o. then o g) e

guard_same : {A : Type 0} (t : Bool) (n a : ℕ) (p q : Outcome A) → (t ≡ true → p ≡ q) → guard t n a p ≡ guard t n a q
guard_same true n a p q h = h refl
guard_same false n a p q h = refl

deeper_same : {A : Type 0} (n a : ℕ) (f g : ℕ → Outcome A) → ((m : ℕ) → f m ≡ g m) → deeper n a f ≡ deeper n a g
deeper_same zero a f g h = refl
deeper_same (suc n) a f g h = h n

seen_same : {A : Type 0} (s : Seen) (a : ℕ) (f g : Lexeme → Outcome A) → ((t : Lexeme) → f t ≡ g t) → on_seen s a f ≡ on_seen s a g
seen_same (token t) a f g h = h t
seen_same long_row a f g h = refl
seen_same stranger a f g h = refl

-- A reader of blocks that ends at place 200 at most.
abbrev Placed : Blocks → Type 0
Placed rec = (nest place a b : ℕ) (s : Block) → place ≤ 200 → rec nest place a ≡ ok s b → place + size s ≤ 200

module _ (r : Reader) (z : Sizes) where
  module _ (rec : Blocks) (placed : Placed rec) where
    inner_placed : (nest place a b : ℕ) (s : Block) → place ≤ 200 → inner_block r rec nest place a ≡ ok s b → place + size s ≤ 200
    unfolding inner_block
    inner_placed nest place a b s le e =
        seeing_ok r a (λ t. guard (same t (mark Open)) 3 a (deeper nest a (λ m. then (rec m place (r.next a)) (λ u c. then (expect r (mark Close) c) (λ _ d. ok u d))))) s b e
        (λ t l f. guard_ok (same t (mark Open)) 3 a (deeper nest a (λ m. then (rec m place (r.next a)) (λ u c. then (expect r (mark Close) c) (λ _ d. ok u d)))) s b f
        (λ q g. deeper_ok nest a (λ m. then (rec m place (r.next a)) (λ u c. then (expect r (mark Close) c) (λ _ d. ok u d))) s b g
        (λ m _ h. then_ok (rec m place (r.next a)) (λ u c. then (expect r (mark Close) c) (λ _ d. ok u d)) s b h
        (λ u c f₁ h₁. then_ok (expect r (mark Close) c) (λ _ d. ok u d) s b h₁
        (λ x d f₂ h₂. rw (sym (ok_piece u s d b h₂).0) (placed m place (r.next a) c u le f₁))))))

    followed_placed : (p : Outcome Plain) (nest place b : ℕ) (s : Block) → place < 200 → followed p (λ c. rec nest (suc place) c) ≡ ok s b → place + size s ≤ 200
    followed_placed p nest place b s lt e =
        then_ok p (λ u c. then (rec nest (suc place) c) (λ rest d. ok (plain u rest) d)) s b e
        (λ u c f h. then_ok (rec nest (suc place) c) (λ rest d. ok (plain u rest) d) s b h
        (λ rest d f₁ h₁. let i = placed nest (suc place) c d rest (omega arith) f₁ in
        rw (sym (ok_piece (plain u rest) s d b h₁).0) (omega arith)))

    branch_placed : (nest place a b : ℕ) (s : Block) → place < 200 → branch_rest r z rec nest place a ≡ ok s b → place + size s ≤ 200
    unfolding branch_rest
    branch_placed nest place a b s lt h =
        let els = word (codes "else") in
        then_ok (an_expr r z.values z.globals a) (λ e c. then (inner_block r rec nest (suc place) c) (λ u d. then (expect r els d) (λ _ x. then (inner_block r rec nest (suc place + size u) x) (λ v y. then (rec nest (suc place + size u + size v) y) (λ rest w. ok (branch e u v rest) w))))) s b h
        (λ e c f₁ h₁. then_ok (inner_block r rec nest (suc place) c) (λ u d. then (expect r els d) (λ _ x. then (inner_block r rec nest (suc place + size u) x) (λ v y. then (rec nest (suc place + size u + size v) y) (λ rest w. ok (branch e u v rest) w)))) s b h₁
        (λ u d f₂ h₂. then_ok (expect r els d) (λ _ x. then (inner_block r rec nest (suc place + size u) x) (λ v y. then (rec nest (suc place + size u + size v) y) (λ rest w. ok (branch e u v rest) w))) s b h₂
        (λ o x f₃ h₃. then_ok (inner_block r rec nest (suc place + size u) x) (λ v y. then (rec nest (suc place + size u + size v) y) (λ rest w. ok (branch e u v rest) w)) s b h₃
        (λ v y f₄ h₄. then_ok (rec nest (suc place + size u + size v) y) (λ rest w. ok (branch e u v rest) w) s b h₄
        (λ rest w f₅ h₅. let i₁ = inner_placed nest (suc place) c d u (omega arith) f₂ in
        let i₂ = inner_placed nest (suc place + size u) x y v i₁ f₄ in
        let i₃ = placed nest (suc place + size u + size v) y w rest i₂ f₅ in
        rw (sym (ok_piece (branch e u v rest) s w b h₅).0) (omega arith))))))

    loop_placed : (nest place a b : ℕ) (s : Block) → place < 200 → loop_rest r z rec nest place a ≡ ok s b → place + size s ≤ 200
    unfolding loop_rest
    loop_placed nest place a b s lt h =
        then_ok (an_expr r z.values z.globals a) (λ e c. then (inner_block r rec nest (suc place) c) (λ u d. then (rec nest (suc place + size u) d) (λ rest w. ok (loop e u rest) w))) s b h
        (λ e c f₁ h₁. then_ok (inner_block r rec nest (suc place) c) (λ u d. then (rec nest (suc place + size u) d) (λ rest w. ok (loop e u rest) w)) s b h₁
        (λ u d f₂ h₂. then_ok (rec nest (suc place + size u) d) (λ rest w. ok (loop e u rest) w) s b h₂
        (λ rest w f₅ h₅. let i₁ = inner_placed nest (suc place) c d u (omega arith) f₂ in
        let i₃ = placed nest (suc place + size u) d w rest i₁ f₅ in
        rw (sym (ok_piece (loop e u rest) s w b h₅).0) (omega arith))))

    keyed_placed : (nest place a b : ℕ) (s : Block) (k : Key) → place < 200 → keyed r z rec nest place a k ≡ ok s b → place + size s ≤ 200
    keyed_placed nest place a b s on_skip lt h = followed_placed (ended r skips a) nest place b s lt h
    keyed_placed nest place a b s on_assume lt h =
        followed_placed (ended_expr r z (λ e. assumes e) a) nest place b s lt h
    keyed_placed nest place a b s on_if lt h = branch_placed nest place a b s lt h
    keyed_placed nest place a b s on_while lt h = loop_placed nest place a b s lt h
    keyed_placed nest place a b s on_call lt h = followed_placed (call_rest r z a) nest place b s lt h
    keyed_placed nest place a b s on_return lt h =
        followed_placed (ended_expr r z (λ e. returns e) a) nest place b s lt h
    keyed_placed nest place a b s on_post lt h = followed_placed (post_rest r z a) nest place b s lt h
    keyed_placed nest place a b s on_yield lt h = followed_placed (ended r yields a) nest place b s lt h
    keyed_placed nest place a b s on_zield lt h = followed_placed (ended r zields a) nest place b s lt h

    from_placed : (nest place a b : ℕ) (s : Block) (o : Opening) → place ≤ 200 → statement_from r z rec nest place a o ≡ ok s b → place + size s ≤ 200
    from_placed nest place a b s (begins k) le h =
        guard_ok (ltb place 200) 7 a (keyed r z rec nest place (r.next a) k) s b h
        (λ q f. keyed_placed nest place (r.next a) b s k (ltb-true place 200 q) f)
    from_placed nest place a b s (sets v) le h =
        guard_ok (ranged z.globals v) 4 a (guard (ltb place 200) 7 a (followed (set_rest r z v (r.next a)) (λ c. rec nest (suc place) c))) s b h
        (λ q f. guard_ok (ltb place 200) 7 a (followed (set_rest r z v (r.next a)) (λ c. rec nest (suc place) c)) s b f
        (λ q₁ f₁. followed_placed (set_rest r z v (r.next a)) nest place b s (ltb-true place 200 q₁) f₁))
    from_placed nest place a b s closes le h = rw (sym (ok_piece stop s a b h).0) (omega arith)
    from_placed nest place a b s nothing le h = cc

    at_placed : Placed (statement_at r z rec)
    unfolding statement_at
    at_placed nest place a b s le e =
        seeing_ok r a (λ t. statement_from r z rec nest place a (opening t)) s b e
        (λ t l f. from_placed nest place a b s (opening t) le f)

  -- Statements that are read take no place past the last.
  pub statements_placed : (fuel : ℕ) → Placed (statements r z fuel)
  unfolding statements
  statements_placed zero nest place a b s le e = cc
  statements_placed (suc fuel) nest place a b s le e =
      at_placed (λ n p c. statements r z fuel n p c) (statements_placed fuel) nest place a b s le e

  module _ (rec other : Blocks) (placed : Placed rec) (low : ℕ) (alike : (nest place a : ℕ) → low ≤ place → place ≤ 200 → rec nest place a ≡ other nest place a) where
    inner_alike : (nest place a : ℕ) → low ≤ place → place ≤ 200 → inner_block r rec nest place a ≡ inner_block r other nest place a
    unfolding inner_block
    inner_alike nest place a lo le =
        seen_same (r.look a) a (λ t. guard (same t (mark Open)) 3 a (deeper nest a (λ m. then (rec m place (r.next a)) (λ s b. then (expect r (mark Close) b) (λ _ c. ok s c))))) (λ t. guard (same t (mark Open)) 3 a (deeper nest a (λ m. then (other m place (r.next a)) (λ s b. then (expect r (mark Close) b) (λ _ c. ok s c)))))
        (λ t. guard_same (same t (mark Open)) 3 a (deeper nest a (λ m. then (rec m place (r.next a)) (λ s b. then (expect r (mark Close) b) (λ _ c. ok s c)))) (deeper nest a (λ m. then (other m place (r.next a)) (λ s b. then (expect r (mark Close) b) (λ _ c. ok s c))))
        (λ _. deeper_same nest a (λ m. then (rec m place (r.next a)) (λ s b. then (expect r (mark Close) b) (λ _ c. ok s c))) (λ m. then (other m place (r.next a)) (λ s b. then (expect r (mark Close) b) (λ _ c. ok s c)))
        (λ m. ap (λ o. then o (λ s b. then (expect r (mark Close) b) (λ _ c. ok s c))) (alike m place (r.next a) lo le))))

    followed_alike : (p : Outcome Plain) (nest place : ℕ) → low ≤ suc place → place < 200 → followed p (λ b. rec nest (suc place) b) ≡ followed p (λ b. other nest (suc place) b)
    followed_alike p nest place lo lt =
        then_same p p (λ s b. then (rec nest (suc place) b) (λ rest c. ok (plain s rest) c)) (λ s b. then (other nest (suc place) b) (λ rest c. ok (plain s rest) c)) refl
        (λ s b _. ap (λ o. then o (λ rest c. ok (plain s rest) c)) (alike nest (suc place) b lo (omega arith)))

    branch_alike : (nest place a : ℕ) → low ≤ suc place → place < 200 → branch_rest r z rec nest place a ≡ branch_rest r z other nest place a
    unfolding branch_rest
    branch_alike nest place a lo lt =
        let els = word (codes "else") in
        let start = an_expr r z.values z.globals a in
        then_same start start (λ e b. then (inner_block r rec nest (suc place) b) (λ s c. then (expect r els c) (λ _ d. then (inner_block r rec nest (suc place + size s) d) (λ u x. then (rec nest (suc place + size s + size u) x) (λ rest y. ok (branch e s u rest) y))))) (λ e b. then (inner_block r other nest (suc place) b) (λ s c. then (expect r els c) (λ _ d. then (inner_block r other nest (suc place + size s) d) (λ u x. then (other nest (suc place + size s + size u) x) (λ rest y. ok (branch e s u rest) y))))) refl
        (λ e b _. then_same (inner_block r rec nest (suc place) b) (inner_block r other nest (suc place) b) (λ s c. then (expect r els c) (λ _ d. then (inner_block r rec nest (suc place + size s) d) (λ u x. then (rec nest (suc place + size s + size u) x) (λ rest y. ok (branch e s u rest) y)))) (λ s c. then (expect r els c) (λ _ d. then (inner_block r other nest (suc place + size s) d) (λ u x. then (other nest (suc place + size s + size u) x) (λ rest y. ok (branch e s u rest) y)))) (inner_alike nest (suc place) b lo (omega arith))
        (λ s c p₁. let i₁ = inner_placed rec placed nest (suc place) b c s (omega arith) p₁ in
        then_same (expect r els c) (expect r els c) (λ _ d. then (inner_block r rec nest (suc place + size s) d) (λ u x. then (rec nest (suc place + size s + size u) x) (λ rest y. ok (branch e s u rest) y))) (λ _ d. then (inner_block r other nest (suc place + size s) d) (λ u x. then (other nest (suc place + size s + size u) x) (λ rest y. ok (branch e s u rest) y))) refl
        (λ _ d _. then_same (inner_block r rec nest (suc place + size s) d) (inner_block r other nest (suc place + size s) d) (λ u x. then (rec nest (suc place + size s + size u) x) (λ rest y. ok (branch e s u rest) y)) (λ u x. then (other nest (suc place + size s + size u) x) (λ rest y. ok (branch e s u rest) y)) (inner_alike nest (suc place + size s) d (omega arith) i₁)
        (λ u x p₂. let i₂ = inner_placed rec placed nest (suc place + size s) d x u i₁ p₂ in
        ap (λ o. then o (λ rest y. ok (branch e s u rest) y)) (alike nest (suc place + size s + size u) x (omega arith) i₂)))))

    loop_alike : (nest place a : ℕ) → low ≤ suc place → place < 200 → loop_rest r z rec nest place a ≡ loop_rest r z other nest place a
    unfolding loop_rest
    loop_alike nest place a lo lt =
        let start = an_expr r z.values z.globals a in
        then_same start start (λ e b. then (inner_block r rec nest (suc place) b) (λ s c. then (rec nest (suc place + size s) c) (λ rest x. ok (loop e s rest) x))) (λ e b. then (inner_block r other nest (suc place) b) (λ s c. then (other nest (suc place + size s) c) (λ rest x. ok (loop e s rest) x))) refl
        (λ e b _. then_same (inner_block r rec nest (suc place) b) (inner_block r other nest (suc place) b) (λ s c. then (rec nest (suc place + size s) c) (λ rest x. ok (loop e s rest) x)) (λ s c. then (other nest (suc place + size s) c) (λ rest x. ok (loop e s rest) x)) (inner_alike nest (suc place) b lo (omega arith))
        (λ s c p₁. let i₁ = inner_placed rec placed nest (suc place) b c s (omega arith) p₁ in
        ap (λ o. then o (λ rest x. ok (loop e s rest) x)) (alike nest (suc place + size s) c (omega arith) i₁)))

    keyed_alike : (nest place a : ℕ) (k : Key) → low ≤ suc place → place < 200 → keyed r z rec nest place a k ≡ keyed r z other nest place a k
    keyed_alike nest place a on_skip lo lt = followed_alike (ended r skips a) nest place lo lt
    keyed_alike nest place a on_assume lo lt = followed_alike (ended_expr r z (λ e. assumes e) a) nest place lo lt
    keyed_alike nest place a on_if lo lt = branch_alike nest place a lo lt
    keyed_alike nest place a on_while lo lt = loop_alike nest place a lo lt
    keyed_alike nest place a on_call lo lt = followed_alike (call_rest r z a) nest place lo lt
    keyed_alike nest place a on_return lo lt = followed_alike (ended_expr r z (λ e. returns e) a) nest place lo lt
    keyed_alike nest place a on_post lo lt = followed_alike (post_rest r z a) nest place lo lt
    keyed_alike nest place a on_yield lo lt = followed_alike (ended r yields a) nest place lo lt
    keyed_alike nest place a on_zield lo lt = followed_alike (ended r zields a) nest place lo lt

    from_alike : (nest place a : ℕ) (o : Opening) → low ≤ suc place → statement_from r z rec nest place a o ≡ statement_from r z other nest place a o
    from_alike nest place a (begins k) lo =
        guard_same (ltb place 200) 7 a (keyed r z rec nest place (r.next a) k) (keyed r z other nest place (r.next a) k)
        (λ q. keyed_alike nest place (r.next a) k lo (ltb-true place 200 q))
    from_alike nest place a (sets v) lo =
        guard_same (ranged z.globals v) 4 a (guard (ltb place 200) 7 a (followed (set_rest r z v (r.next a)) (λ b. rec nest (suc place) b))) (guard (ltb place 200) 7 a (followed (set_rest r z v (r.next a)) (λ b. other nest (suc place) b)))
        (λ _. guard_same (ltb place 200) 7 a (followed (set_rest r z v (r.next a)) (λ b. rec nest (suc place) b)) (followed (set_rest r z v (r.next a)) (λ b. other nest (suc place) b))
        (λ q. followed_alike (set_rest r z v (r.next a)) nest place lo (ltb-true place 200 q)))
    from_alike nest place a closes lo = refl
    from_alike nest place a nothing lo = refl

    at_alike : (nest place a : ℕ) → low ≤ suc place → statement_at r z rec nest place a ≡ statement_at r z other nest place a
    unfolding statement_at
    at_alike nest place a lo =
        seen_same (r.look a) a (λ t. statement_from r z rec nest place a (opening t)) (λ t. statement_from r z other nest place a (opening t))
        (λ t. from_alike nest place a (opening t) lo)

  -- With fuel for the places that are left, any fuel reads the same.
  pub statements_enough : (fuel more nest place a : ℕ) → place ≤ 200 → 200 < fuel + place → 200 < more + place → statements r z fuel nest place a ≡ statements r z more nest place a
  unfolding statements
  statements_enough zero more nest place a le f g = absurd (omega arith)
  statements_enough (suc fuel) zero nest place a le f g = absurd (omega arith)
  statements_enough (suc fuel) (suc more) nest place a le f g =
      at_alike (λ n p b. statements r z fuel n p b) (λ n p b. statements r z more n p b) (statements_placed fuel) (suc place)
      (λ n p b lo hi. statements_enough fuel more n p b hi (omega arith) (omega arith)) nest place a (omega arith)
