-- Reading variables, numbers, names and expressions from left to right. Assumes nothing.
use Rattle.std.specs.Prelude.{ℕ, zero, suc, Bool, true, false, cond, List, Some, None, Option, nat_lt}
use Rattle.lexer.specs.Lexemes.{Lexeme, mark, Reader}
use Rattle.lexer.specs.declared.mark.Mark.TheVariants.{Left, Right, Not, Star}
use Rattle.program.specs.declared.variable.Variable.{Variable}
use Rattle.program.specs.declared.variable.Variable.TheVariants.{Global, Local}
use Rattle.program.specs.declared.operator.Operator.{Operator}
use Rattle.grammar.specs.Tokens.{same, value, digits_of, variable_of, operator_of, name_of}
use Rattle.grammar.specs.Sources.{Term, numeral, variable, negated, Sum, one, two, bracket, Expr, star, sum}
use Rattle.grammar.specs.Results.{Outcome, ok, bad, then, guard, need, seeing, expect}

-- Whether a variable is l or one of the globals.
abbrev pub ranged : ℕ → Variable → Bool
ranged globals (Global n) = nat_lt n globals
ranged globals Local = true

-- A variable, a number below a limit, and a name that a procedure can have.
unfoldable pub a_variable : Reader → ℕ → ℕ → Outcome Variable
a_variable r globals a = seeing r a (λ t. need (variable_of t) a (λ v. guard (ranged globals v) 4 a (ok v (r.next a))))

unfoldable pub a_number : Reader → ℕ → ℕ → Outcome (List ℕ)
a_number r limit a = seeing r a (λ t. need (digits_of t) a (λ ds. guard (nat_lt (value ds) limit) 4 a (ok ds (r.next a))))

unfoldable pub a_name : Reader → ℕ → Outcome (List ℕ)
a_name r a = seeing r a (λ t. need (name_of t) a (λ w. ok w (r.next a)))

-- What a term begins with.
pub data Start : Type 0 where
  with_number : List ℕ → Start
  with_variable : Variable → Start
  with_not : Start
  with_left : Start
  with_other : Start

abbrev pub begun : Option (List ℕ) → Option Variable → Bool → Bool → Start
begun (Some ds) v n l = with_number ds
begun None (Some v) n l = with_variable v
begun None None true l = with_not
begun None None false true = with_left
begun None None false false = with_other

unfoldable pub start : Lexeme → Start
start t = begun (digits_of t) (variable_of t) (same t (mark Not)) (same t (mark Left))

-- How a term one level further in is read: not at all, or by a function.
pub data Inside : Type 0 where
  shut : Inside
  opened : (ℕ → Outcome Term) → Inside

abbrev pub enter : {A : Type 0} → Inside → ℕ → ((ℕ → Outcome Term) → Outcome A) → Outcome A
enter shut a f = bad 7 a
enter (opened g) a f = f g

-- An operator, if one stands there; one or two terms.
abbrev pub operator_or : Option Operator → ℕ → ℕ → Outcome (Option Operator)
operator_or None a b = ok None a
operator_or (Some o) a b = ok (Some o) b

unfoldable pub an_operator : Reader → ℕ → Outcome (Option Operator)
an_operator r a = seeing r a (λ t. operator_or (operator_of t) a (r.next a))

abbrev pub second : (ℕ → Outcome Term) → Term → Option Operator → ℕ → Outcome Sum
second g t None b = ok (one t) b
second g t (Some o) b = then (g b) (λ u c. ok (two t o u) c)

unfoldable pub a_sum : Reader → (ℕ → Outcome Term) → ℕ → Outcome Sum
a_sum r g a = then (g a) (λ t b. then (an_operator r b) (λ o c. second g t o c))

abbrev pub term_from : Reader → ℕ → ℕ → Inside → ℕ → Start → Outcome Term
term_from r values globals d a (with_number ds) = guard (nat_lt (value ds) values) 4 a (ok (numeral ds) (r.next a))
term_from r values globals d a (with_variable v) = guard (ranged globals v) 4 a (ok (variable v) (r.next a))
term_from r values globals d a with_not = enter d a (λ g. then (g (r.next a)) (λ t b. ok (negated t) b))
term_from r values globals d a with_left = enter d a (λ g. then (a_sum r g (r.next a)) (λ s b. then (expect r (mark Right) b) (λ _ c. ok (bracket s) c)))
term_from r values globals d a with_other = bad 3 a

unfoldable pub term_in : Reader → ℕ → ℕ → Inside → ℕ → Outcome Term
term_in r values globals d a = seeing r a (λ t. term_from r values globals d a (start t))

-- The reader of terms inside n levels; a term with at most n levels.
unfoldable pub inside : Reader → ℕ → ℕ → ℕ → Inside
inside r values globals zero = shut
inside r values globals (suc n) = opened (λ a. term_in r values globals (inside r values globals n) a)

unfoldable pub a_term : Reader → ℕ → ℕ → ℕ → ℕ → Outcome Term
a_term r values globals n a = term_in r values globals (inside r values globals n) a

-- An expression.
unfoldable pub an_expr : Reader → ℕ → ℕ → ℕ → Outcome Expr
an_expr r values globals a = seeing r a (λ t. cond (same t (mark Star)) (ok star (r.next a)) (then (a_sum r (λ c. a_term r values globals 8 c) a) (λ s b. ok (sum s) b)))
