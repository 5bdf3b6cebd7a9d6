-- Expressions that are spelt, and keep the rules, are read.
use Rattle.std.proofs.Common.{◌≡◌, ℕ, zero, suc, ◌≤◌, false, [], ◌∷◌, ◌++◌, None, refl, ap}
use Rattle.std.proofs.lemmas.Bool.{lt-ltb}
use Rattle.lexer.specs.Lexemes.{Lexeme, word, number, mark, token, Reader}
use Rattle.lexer.specs.declared.mark.Mark.TheVariants.{Left, Right, Not, Star}
use Rattle.program.specs.declared.operator.Operator.{Operator}
use Rattle.grammar.specs.Tokens.{same, value, letters, sign, operator_of}
use Rattle.grammar.specs.Sources.{Term, numeral, variable, negated, single, double, Sum, one, two, bracket, Expr, star, sum}
use Rattle.grammar.specs.Spelling.{spelt_term, spelt_sum, spelt_expr}
use Rattle.grammar.specs.Rules.{KeepsTerm, KeepsSum, KeepsExpr}
use Rattle.grammar.specs.Results.{Outcome, ok, Reads}
use Rattle.grammar.specs.ReadExpr.{start, Inside, opened, an_operator, a_sum, term_from, term_in, inside, a_term, an_expr}
use Rattle.grammar.proofs.Joining.{split, expect_complete}
use Rattle.grammar.proofs.Telling.{true_ranged, ranged_wider, start_number, start_variable, start_not, start_left}
use Rattle.grammar.proofs.Expressions.{operator_complete}

-- No operator stands there.
pub no_operator : (r : Reader) (t : Lexeme) (a : ℕ) → r.look a ≡ token t → operator_of t ≡ None → an_operator r a ≡ ok None a
unfolding an_operator
no_operator r t a l e = rw (l, e)

right_none : operator_of (mark Right) ≡ None
unfolding operator_of
right_none = refl

one_read : (r : Reader) (g : ℕ → Outcome Term) (t : Term) (a b : ℕ) → g a ≡ ok t b → an_operator r b ≡ ok None b → a_sum r g a ≡ ok (one t) b
unfolding a_sum
one_read r g t a b e n = rw (e, n)

two_read : (r : Reader) (g : ℕ → Outcome Term) (t : Term) (o : Operator) (u : Term) (a b c : ℕ) → g a ≡ ok t b → r.look b ≡ token (mark (sign o)) → g (r.next b) ≡ ok u c → a_sum r g a ≡ ok (two t o u) c
unfolding a_sum
two_read r g t o u a b c e l f = rw (e, operator_complete r o b l, f)

module _ (r : Reader) (values globals : ℕ) (few : globals ≤ 8) where
  seen_term : (d : Inside) (t : Lexeme) (a : ℕ) → r.look a ≡ token t → term_in r values globals d a ≡ term_from r values globals d a (start t)
  unfolding term_in
  seen_term d t a l = rw l

  inside_suc : (n : ℕ) → inside r values globals (suc n) ≡ opened (λ a. term_in r values globals (inside r values globals n) a)
  unfolding inside
  inside_suc n = refl

  -- What stands in brackets, and the bracket that ends it.
  bracket_read : (s : Sum) (n a b c : ℕ) → r.look a ≡ token (mark Left) → a_sum r (λ x. term_in r values globals (inside r values globals n) x) (r.next a) ≡ ok s b → Reads r b (mark Right ∷ []) c → term_in r values globals (inside r values globals (suc n)) a ≡ ok (bracket s) c
  bracket_read s n a b c l e q =
      rw (seen_term (inside r values globals (suc n)) (mark Left) a l, start_left, inside_suc n, e, expect_complete r (mark Right) b q.0) (ap (ok (bracket s)) q.1)

  in_complete : (t : Term) (n a b : ℕ) → Reads r a (spelt_term t) b → KeepsTerm values globals t n → term_in r values globals (inside r values globals n) a ≡ ok t b
  in_complete (numeral ds) n a b h k =
      rw (seen_term (inside r values globals n) (number ds) a h.0, start_number ds, lt-ltb (value ds) values k) (ap (ok (numeral ds)) h.1)
  in_complete (variable v) n a b h k =
      rw (seen_term (inside r values globals n) (word (letters v)) a h.0, start_variable v (ranged_wider globals 8 v few k), true_ranged globals v k) (ap (ok (variable v)) h.1)
  in_complete (negated t) zero a b h k = absurd k
  in_complete (negated t) (suc n) a b h k =
      rw (seen_term (inside r values globals (suc n)) (mark Not) a h.0, start_not, inside_suc n, in_complete t n (r.next a) b h.1 k)
  in_complete (single t) zero a b h k = absurd k
  in_complete (single t) (suc n) a b h k =
      split r (spelt_term t) (mark Right ∷ []) (r.next a) b h.1
      (λ c p q. bracket_read (one t) n a c b h.0
      (one_read r (λ x. term_in r values globals (inside r values globals n) x) t (r.next a) c (in_complete t n (r.next a) c p k) (no_operator r (mark Right) c q.0 right_none)) q)
  in_complete (double t o u) zero a b h k = absurd k
  in_complete (double t o u) (suc n) a b h k =
      split r (spelt_term t ++ (mark (sign o) ∷ spelt_term u)) (mark Right ∷ []) (r.next a) b h.1
      (λ c p q. split r (spelt_term t) (mark (sign o) ∷ spelt_term u) (r.next a) c p
      (λ d x y. bracket_read (two t o u) n a c b h.0
      (two_read r (λ z. term_in r values globals (inside r values globals n) z) t o u (r.next a) d c (in_complete t n (r.next a) d x k.0) y.0 (in_complete u n (r.next d) c y.1 k.1)) q))

  -- A term that is spelt is read.
  pub term_complete : (t : Term) (n a b : ℕ) → Reads r a (spelt_term t) b → KeepsTerm values globals t n → a_term r values globals n a ≡ ok t b
  unfolding a_term
  term_complete t n a b h k = in_complete t n a b h k

  -- One or two terms that are spelt are read, where no operator follows.
  pub sum_complete : (s : Sum) (n a b : ℕ) → Reads r a (spelt_sum s) b → KeepsSum values globals s n → an_operator r b ≡ ok None b → a_sum r (λ x. a_term r values globals n x) a ≡ ok s b
  sum_complete (one t) n a b h k f =
      one_read r (λ x. a_term r values globals n x) t a b (term_complete t n a b h k) f
  sum_complete (two t o u) n a b h k f =
      split r (spelt_term t) (mark (sign o) ∷ spelt_term u) a b h
      (λ c x y. two_read r (λ z. a_term r values globals n z) t o u a c b (term_complete t n a c x k.0) y.0 (term_complete u n (r.next c) b y.1 k.1))

  -- No term begins with a star.
  abbrev Starless : ℕ → Type 0
  Starless a = (t : Lexeme) × (r.look a ≡ token t) × (same t (mark Star) ≡ false)

  term_starless : (t : Term) (a b : ℕ) → Reads r a (spelt_term t) b → Starless a
  term_starless (numeral ds) a b h = (number ds, h.0, refl)
  term_starless (variable v) a b h = (word (letters v), h.0, refl)
  term_starless (negated t) a b h = (mark Not, h.0, refl)
  term_starless (single t) a b h = (mark Left, h.0, refl)
  term_starless (double t o u) a b h = (mark Left, h.0, refl)

  sum_starless : (s : Sum) (a b : ℕ) → Reads r a (spelt_sum s) b → Starless a
  sum_starless (one t) a b h = term_starless t a b h
  sum_starless (two t o u) a b h =
      split r (spelt_term t) (mark (sign o) ∷ spelt_term u) a b h (λ c x y. term_starless t a c x)

  -- An expression that is spelt is read, where no operator follows.
  pub expr_complete : (e : Expr) (a b : ℕ) → Reads r a (spelt_expr e) b → KeepsExpr values globals e → an_operator r b ≡ ok None b → an_expr r values globals a ≡ ok e b
  unfolding an_expr
  expr_complete star a b h k f = rw h.0 (ap (ok star) h.1)
  expr_complete (sum s) a b h k f =
      let m = sum_starless s a b h in
      rw (m.1, m.2, sum_complete s 8 a b h k f)
