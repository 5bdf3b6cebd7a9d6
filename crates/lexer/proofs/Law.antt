-- A text spells tokens exactly when its reader sees them. Assumes nothing.
use Rattle.std.proofs.Common.{◌≡◌, ℕ, ◌<◌, List, [], ◌∷◌, ◌++◌, length, take, drop, sym, refl, ap, ◌∙◌, subst, arith, take-append-drop}
use Rattle.std.proofs.lemmas.List.{drop_at}
use Rattle.std.proofs.lemmas.Bool.{or_left}
use Rattle.lexer.specs.declared.class.Class.{Class}
use Rattle.lexer.specs.declared.class.Class.TheVariants.{Letter, Digit, Blank, Begins, Other}
use Rattle.lexer.specs.declared.row.Row.TheVariants.{Blanks}
use Rattle.lexer.specs.Bytes.{All, letter_or_digit, Spelt, Sees, No_end, TextLaw, Written}
use Rattle.lexer.specs.Classes.{letter, digit, blank, class}
use Rattle.lexer.specs.Lexemes.{Lexeme}
use Rattle.lexer.specs.Reading.{size_as, stride, reader_of}
use Rattle.lexer.specs.Rows.{row_size}
use Rattle.lexer.proofs.Leading.{leading_yes, leading_joined, front_all}
use Rattle.lexer.proofs.MarkFronts.{begins}
use Rattle.lexer.proofs.RowClasses.{letter_since, digit_since}
use Rattle.lexer.proofs.RowSizes.{word_size, number_size, blanks_size}
use Rattle.lexer.proofs.Runs.{Runs, runs_read, read_runs}
use Rattle.lexer.proofs.Splitting.{runs_written}
use Rattle.lexer.proofs.Writing.{written_stops, written_runs}

-- What is met has at least one byte.
some_bytes : (c : Class) (b : ℕ) (bs : List ℕ) → class b ≡ c → 0 < size_as c (b ∷ bs)
some_bytes Letter b bs e = omega (arith, word_size (b ∷ bs) ∙ leading_yes letter_or_digit b bs (or_left (letter b) (digit b) (letter_since b e)))
some_bytes Digit b bs e = omega (arith, number_size (b ∷ bs) ∙ leading_yes digit b bs (digit_since b e))
some_bytes Blank b bs e = omega arith
some_bytes (Begins m) b bs e = omega (arith, ap length (begins m).is)
some_bytes Other b bs e = omega arith

strides : (t : List ℕ) → 0 < stride t
strides [] = omega arith
strides (b ∷ bs) = let some = some_bytes (class b) b bs refl in omega arith

first_passed : (ls : List Lexeme) (gap rest : List ℕ) → All blank gap → Written ls rest → drop (row_size Blanks (gap ++ rest)) (gap ++ rest) ≡ rest
first_passed ls gap rest a w = drop_at gap rest (row_size Blanks (gap ++ rest)) (sym (blanks_size (gap ++ rest) ∙ leading_joined blank gap rest a (written_stops ls rest w)))

spelt_seen : (t : List ℕ) (ls : List Lexeme) → Spelt ls t → Sees (reader_of t) ls
spelt_seen t ls s =
    let to : drop (row_size Blanks t) t ≡ s.1 = ap (λ (u : List ℕ). drop (row_size Blanks u) u) s.2 ∙ first_passed ls s.0 s.1 s.3 s.4 in
    read_runs t (row_size Blanks t) ls (subst (λ (u : List ℕ). Runs u ls) (sym to) (written_runs ls s.1 s.4))

seen_spelt : (t : List ℕ) (ls : List Lexeme) → No_end ls → Sees (reader_of t) ls → Spelt ls t
seen_spelt t ls n s =
    let g : ℕ = row_size Blanks t in (
      take g t,
      drop g t,
      sym (take-append-drop g t),
      subst (λ (i : ℕ). All blank (take i t)) (sym (blanks_size t)) (front_all blank t),
      runs_written ls (drop g t) n (runs_read t g ls s.0 s.1 s.2),
    )

pub text_law : (t : List ℕ) → TextLaw t
text_law t = record {
  seen = spelt_seen t;
  spelt = seen_spelt t;
  grows = λ o. let some = strides (drop o t) in omega arith;
}
