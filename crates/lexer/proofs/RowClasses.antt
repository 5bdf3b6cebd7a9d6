-- A byte's class tells which rows it goes on with. Assumes nothing.
use Rattle.std.proofs.Common.{◌≡◌, ℕ, Bool, true, false, cond, eqb, List, [], ◌∷◌, get_or, sym, refl, ap, ◌∙◌, ⊎_elim, arith}
use Rattle.std.proofs.lemmas.Bool.{or_cases, cases_Bool, or_left, or_right, or_from, both_ways}
use Rattle.std.proofs.lemmas.Bool.Decides.{nat_tests}
use Rattle.lexer.specs.declared.class.Class.{Class}
use Rattle.lexer.specs.declared.class.Class.TheVariants.{Letter, Digit, Blank, Begins}
use Rattle.lexer.specs.declared.mark.Mark.{Mark}
use Rattle.lexer.specs.declared.row.Row.{Row}
use Rattle.lexer.specs.declared.row.Row.TheVariants.{Word, Number, Blanks}
use Rattle.lexer.specs.Marks.{spelling, marks}
use Rattle.lexer.specs.Classes.{letter, digit, blank, begun, class}
use Rattle.lexer.specs.Rows.{takes, in_row}

pub letter_no_digit : (b : ℕ) → letter b ≡ true → digit b ≡ false
letter_no_digit b e = grind (arith, nat_tests)

pub letter_no_blank : (b : ℕ) → letter b ≡ true → blank b ≡ false
letter_no_blank b e = grind (arith, nat_tests)

pub digit_no_blank : (b : ℕ) → digit b ≡ true → blank b ≡ false
digit_no_blank b e = grind (arith, nat_tests)

pub digit_no_letter : (b : ℕ) → digit b ≡ true → letter b ≡ false
digit_no_letter b e = grind (arith, nat_tests)

begun_one : (r : Row) (m : Mark) (c : Class) (t : Bool) → takes r c ≡ false → takes r (cond t (Begins m) c) ≡ false
begun_one Word m c true h = refl
begun_one Number m c true h = refl
begun_one Blanks m c true h = refl
begun_one r m c false h = h

-- A byte that begins a mark, or none, is in no row.
begun_none : (r : Row) (b : ℕ) (ms : List Mark) → takes r (begun b ms) ≡ false
begun_none Word b [] = refl
begun_none Number b [] = refl
begun_none Blanks b [] = refl
begun_none r b (m ∷ ms) = begun_one r m (begun b ms) (eqb b (get_or (spelling m) 0 0)) (begun_none r b ms)

-- What the class of a byte is, by the three tests.
pub of_letter : (b : ℕ) → letter b ≡ true → class b ≡ Letter
unfolding class
of_letter b e = rw e

pub of_digit : (b : ℕ) → letter b ≡ false → digit b ≡ true → class b ≡ Digit
unfolding class
of_digit b e f = rw (e, f)

pub of_blank : (b : ℕ) → letter b ≡ false → digit b ≡ false → blank b ≡ true → class b ≡ Blank
unfolding class
of_blank b e f g = rw (e, f, g)

pub of_rest : (b : ℕ) → letter b ≡ false → digit b ≡ false → blank b ≡ false → class b ≡ begun b marks
unfolding class
of_rest b e f g = rw (e, f, g)

at_letter : (r : Row) (b : ℕ) → letter b ≡ true → takes r (class b) ≡ in_row r b
unfolding in_row
at_letter Word b e = ap (takes Word) (of_letter b e) ∙ sym (or_left (letter b) (digit b) e)
at_letter Number b e = ap (takes Number) (of_letter b e) ∙ sym (letter_no_digit b e)
at_letter Blanks b e = ap (takes Blanks) (of_letter b e) ∙ sym (letter_no_blank b e)

at_digit : (r : Row) (b : ℕ) → letter b ≡ false → digit b ≡ true → takes r (class b) ≡ in_row r b
unfolding in_row
at_digit Word b e f = ap (takes Word) (of_digit b e f) ∙ sym (or_right (letter b) (digit b) f)
at_digit Number b e f = ap (takes Number) (of_digit b e f) ∙ sym f
at_digit Blanks b e f = ap (takes Blanks) (of_digit b e f) ∙ sym (digit_no_blank b f)

at_blank : (r : Row) (b : ℕ) → letter b ≡ false → digit b ≡ false → blank b ≡ true → takes r (class b) ≡ in_row r b
unfolding in_row
at_blank Word b e f g = ap (takes Word) (of_blank b e f g) ∙ sym (or_from (letter b) (digit b) e f)
at_blank Number b e f g = ap (takes Number) (of_blank b e f g) ∙ sym f
at_blank Blanks b e f g = ap (takes Blanks) (of_blank b e f g) ∙ sym g

none_in : (r : Row) (b : ℕ) → letter b ≡ false → digit b ≡ false → blank b ≡ false → in_row r b ≡ false
unfolding in_row
none_in Word b e f g = or_from (letter b) (digit b) e f
none_in Number b e f g = f
none_in Blanks b e f g = g

pub takes_class : (r : Row) (b : ℕ) → takes r (class b) ≡ in_row r b
takes_class r b =
    ⊎_elim (at_letter r b)
    (λ e. ⊎_elim (at_digit r b e)
    (λ f. ⊎_elim (at_blank r b e f)
    (λ g. ap (takes r) (of_rest b e f g) ∙ begun_none r b marks ∙ sym (none_in r b e f g))
    (cases_Bool (blank b)))
    (cases_Bool (digit b)))
    (cases_Bool (letter b))

-- What a class says of the byte.
pub letter_since : (b : ℕ) → class b ≡ Letter → letter b ≡ true
unfolding in_row
letter_since b e =
    ⊎_elim (λ h. h) (λ h. absurd (both_ways (digit b) (sym (takes_class Number b) ∙ ap (takes Number) e) h))
    (or_cases (letter b) (digit b) (sym (takes_class Word b) ∙ ap (takes Word) e))

pub digit_since : (b : ℕ) → class b ≡ Digit → digit b ≡ true
unfolding in_row
digit_since b e = sym (takes_class Number b) ∙ ap (takes Number) e

pub no_blank_since : (b : ℕ) (m : Mark) → class b ≡ Begins m → blank b ≡ false
unfolding in_row
no_blank_since b m e = sym (takes_class Blanks b) ∙ ap (takes Blanks) e
