-- Expressions are read exactly as they are spelt.
use Rattle.std.proofs.Common.{◌≡◌, ℕ, zero, suc, Bool, true, false, cond, ltb, List, [], ◌∷◌, ◌++◌, Some, None, Option, sym, refl, ap, ◌∙◌}
use Rattle.std.proofs.lemmas.Bool.{ltb-true}
use Rattle.lexer.specs.Lexemes.{Lexeme, mark, token, Reader}
use Rattle.lexer.specs.declared.mark.Mark.TheVariants.{Left, Right, Star}
use Rattle.program.specs.declared.operator.Operator.{Operator}
use Rattle.grammar.specs.Tokens.{same, value, sign, operator_of}
use Rattle.grammar.specs.Sources.{Term, numeral, variable, negated, Sum, one, two, bracket, Expr, star, sum}
use Rattle.grammar.specs.Spelling.{spelt_term, spelt_sum, spelt_expr}
use Rattle.grammar.specs.Rules.{KeepsTerm, KeepsSum, KeepsExpr}
use Rattle.grammar.specs.Results.{Outcome, ok, then, expect, Reads}
use Rattle.grammar.specs.ReadExpr.{ranged, Start, with_number, with_variable, with_not, with_left, with_other, start, Inside, shut, opened, operator_or, an_operator, second, a_sum, term_from, term_in, inside, a_term, an_expr}
use Rattle.grammar.proofs.Joining.{then_ok, guard_ok, seeing_ok, ok_piece, same_equal, join, expect_sound}
use Rattle.grammar.proofs.Telling.{operator_told, operator_back, ranged_true, Begins, start_told}

-- An operator, or none with nothing taken.
abbrev pub spelt_operator : Option Operator → List Lexeme
spelt_operator None = []
spelt_operator (Some o) = mark (sign o) ∷ []

operator_or_sound : (r : Reader) (t : Lexeme) (p o : Option Operator) (a b : ℕ) → r.look a ≡ token t → operator_of t ≡ p → operator_or p a (r.next a) ≡ ok o b → Reads r a (spelt_operator o) b
operator_or_sound r t None o a b l e h =
    let k = ok_piece None o a b h in rw (sym k.0) k.1
operator_or_sound r t (Some q) o a b l e h =
    let k = ok_piece (Some q) o (r.next a) b h in
    rw (sym k.0) (l ∙ ap token (operator_told t q e), k.1)

operator_sound : (r : Reader) (o : Option Operator) (a b : ℕ) → an_operator r a ≡ ok o b → Reads r a (spelt_operator o) b
unfolding an_operator
operator_sound r o a b e =
    seeing_ok r a (λ t. operator_or (operator_of t) a (r.next a)) o b e
    (λ t l f. operator_or_sound r t (operator_of t) o a b l refl f)

pub operator_complete : (r : Reader) (o : Operator) (a : ℕ) → r.look a ≡ token (mark (sign o)) → an_operator r a ≡ ok (Some o) (r.next a)
unfolding an_operator
operator_complete r o a l = rw (l, operator_back o)

-- A reader of terms that takes what is spelt, with rules K.
abbrev Fair : Reader → (Term → Type 0) → (ℕ → Outcome Term) → Type 0
Fair r K g = (t : Term) (a b : ℕ) → g a ≡ ok t b → Reads r a (spelt_term t) b × K t

abbrev Ruled : (Term → Type 0) → Sum → Type 0
Ruled K (one t) = K t
Ruled K (two t o u) = K t × K u

second_sound : (r : Reader) (K : Term → Type 0) (g : ℕ → Outcome Term) → Fair r K g → (t : Term) (o : Option Operator) (s : Sum) (a b c d : ℕ) → Reads r a (spelt_term t) b → K t → Reads r b (spelt_operator o) c → second g t o c ≡ ok s d → Reads r a (spelt_sum s) d × Ruled K s
second_sound r K g fair t None s a b c d h k q e =
    let p = ok_piece (one t) s c d e in
    rw (sym p.0) (rw (sym p.1) (rw (sym q) h), k)
second_sound r K g fair t (Some o) s a b c d h k q e =
    then_ok (g c) (λ u x. ok (two t o u) x) s d e
    (λ u x f y. let p = ok_piece (two t o u) s x d y in
    let z = fair u c x f in
    rw (sym p.0) (rw (sym p.1) (join r (spelt_term t) (mark (sign o) ∷ spelt_term u) a b x h (q.0, rw q.1 z.0)), (k, z.1)))

sum_sound : (r : Reader) (K : Term → Type 0) (g : ℕ → Outcome Term) → Fair r K g → (s : Sum) (a d : ℕ) → a_sum r g a ≡ ok s d → Reads r a (spelt_sum s) d × Ruled K s
unfolding a_sum
sum_sound r K g fair s a d e =
    then_ok (g a) (λ t b. then (an_operator r b) (λ o c. second g t o c)) s d e
    (λ t b f y. then_ok (an_operator r b) (λ o c. second g t o c) s d y
    (λ o c q z. let h = fair t a b f in
    second_sound r K g fair t o s a b c d h.0 h.1 (operator_sound r o b c q) z))

-- The readers one level further in are fair.
abbrev FairIn : Reader → ℕ → ℕ → Inside → ℕ → Type 0
FairIn r values globals shut n = Unit {0}
FairIn r values globals (opened g) zero = ⊥
FairIn r values globals (opened g) (suc n) = Fair r (λ t. KeepsTerm values globals t n) g

spelt_bracket : (s : Sum) → spelt_term (bracket s) ≡ mark Left ∷ (spelt_sum s ++ (mark Right ∷ []))
spelt_bracket (one t) = refl
spelt_bracket (two t o u) = refl

module _ (r : Reader) (values globals : ℕ) where
  kept_bracket : (s : Sum) (n : ℕ) → Ruled (λ t. KeepsTerm values globals t n) s → KeepsTerm values globals (bracket s) (suc n)
  kept_bracket (one t) n h = h
  kept_bracket (two t o u) n h = h

  kept_sum : (s : Sum) (n : ℕ) → Ruled (λ t. KeepsTerm values globals t n) s → KeepsSum values globals s n
  kept_sum (one t) n h = h
  kept_sum (two t o u) n h = h

  from_sound : (d : Inside) (n : ℕ) → FairIn r values globals d n → (u : Lexeme) (s : Start) (t : Term) (a b : ℕ) → r.look a ≡ token u → Begins u s → term_from r values globals d a s ≡ ok t b → Reads r a (spelt_term t) b × KeepsTerm values globals t n
  from_sound d n fair u (with_number ds) t a b l m e =
      guard_ok (ltb (value ds) values) 4 a (ok (numeral ds) (r.next a)) t b e
      (λ q h. let p = ok_piece (numeral ds) t (r.next a) b h in
      rw (sym p.0) ((l ∙ ap token m, p.1), ltb-true (value ds) values q))
  from_sound d n fair u (with_variable v) t a b l m e =
      guard_ok (ranged globals v) 4 a (ok (variable v) (r.next a)) t b e
      (λ q h. let p = ok_piece (variable v) t (r.next a) b h in
      rw (sym p.0) ((l ∙ ap token m, p.1), ranged_true globals v q))
  from_sound shut n fair u with_not t a b l m e = cc
  from_sound (opened g) zero fair u with_not t a b l m e = absurd fair
  from_sound (opened g) (suc n) fair u with_not t a b l m e =
      then_ok (g (r.next a)) (λ x c. ok (negated x) c) t b e
      (λ x c f h. let p = ok_piece (negated x) t c b h in
      let k = fair x (r.next a) c f in
      rw (sym p.0) ((l ∙ ap token m, rw (sym p.1) k.0), k.1))
  from_sound shut n fair u with_left t a b l m e = cc
  from_sound (opened g) zero fair u with_left t a b l m e = absurd fair
  from_sound (opened g) (suc n) fair u with_left t a b l m e =
      then_ok (a_sum r g (r.next a)) (λ s c. then (expect r (mark Right) c) (λ _ x. ok (bracket s) x)) t b e
      (λ s c f h. then_ok (expect r (mark Right) c) (λ _ x. ok (bracket s) x) t b h
      (λ y x q z. let p = ok_piece (bracket s) t x b z in
      let k = sum_sound r (λ v. KeepsTerm values globals v n) g fair s (r.next a) c f in
      rw (sym p.0) (rw (spelt_bracket s) (l ∙ ap token m, rw (sym p.1) (join r (spelt_sum s) (mark Right ∷ []) (r.next a) c x k.0 (expect_sound r (mark Right) c x y q))), kept_bracket s n k.1)))
  from_sound d n fair u with_other t a b l m e = cc

  in_sound : (d : Inside) (n : ℕ) → FairIn r values globals d n → (t : Term) (a b : ℕ) → term_in r values globals d a ≡ ok t b → Reads r a (spelt_term t) b × KeepsTerm values globals t n
  unfolding term_in
  in_sound d n fair t a b e =
      seeing_ok r a (λ u. term_from r values globals d a (start u)) t b e
      (λ u l f. from_sound d n fair u (start u) t a b l (start_told u) f)

  inside_fair : (n : ℕ) → FairIn r values globals (inside r values globals n) n
  unfolding inside
  inside_fair zero = tt
  inside_fair (suc n) = in_sound (inside r values globals n) n (inside_fair n)

  -- A term that is read is spelt there, and keeps the rules.
  pub term_sound : (n : ℕ) → Fair r (λ t. KeepsTerm values globals t n) (λ a. a_term r values globals n a)
  unfolding a_term
  term_sound n t a b e = in_sound (inside r values globals n) n (inside_fair n) t a b e

  expr_if : (e : Expr) (u : Lexeme) (q : Bool) (a b : ℕ) → r.look a ≡ token u → same u (mark Star) ≡ q → cond q (ok star (r.next a)) (then (a_sum r (λ c. a_term r values globals 8 c) a) (λ s d. ok (sum s) d)) ≡ ok e b → Reads r a (spelt_expr e) b × KeepsExpr values globals e
  expr_if e u true a b l m h =
      let p = ok_piece star e (r.next a) b h in
      rw (sym p.0) ((l ∙ ap token (same_equal u (mark Star) m), p.1), tt)
  expr_if e u false a b l m h =
      then_ok (a_sum r (λ c. a_term r values globals 8 c) a) (λ s d. ok (sum s) d) e b h
      (λ s d f z. let p = ok_piece (sum s) e d b z in
      let k = sum_sound r (λ v. KeepsTerm values globals v 8) (λ c. a_term r values globals 8 c) (term_sound 8) s a d f in
      rw (sym p.0) (rw (sym p.1) k.0, kept_sum s 8 k.1))

  -- An expression that is read is spelt there, and keeps the rules.
  pub expr_sound : (e : Expr) (a b : ℕ) → an_expr r values globals a ≡ ok e b → Reads r a (spelt_expr e) b × KeepsExpr values globals e
  unfolding an_expr
  expr_sound e a b h =
      seeing_ok r a (λ u. cond (same u (mark Star)) (ok star (r.next a)) (then (a_sum r (λ c. a_term r values globals 8 c) a) (λ s d. ok (sum s) d))) e b h
      (λ u l f. expr_if e u (same u (mark Star)) a b l refl f)
