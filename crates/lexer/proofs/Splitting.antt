-- What is read as tokens is written as these tokens. Assumes nothing.
use Rattle.std.proofs.Common.{◌≡◌, ℕ, suc, ◌≤◌, Bool, true, false, cond, leb, nat_eq, List, [], ◌∷◌, ◌++◌, length, take, drop, sym, refl, ap, ◌∙◌, subst, arith, take-append-drop, length-take}
use Rattle.std.specs.List.{prefix_len}
use Rattle.std.proofs.lemmas.List.{drop-drop}
use Rattle.std.proofs.lemmas.Bool.{leb-true, or_left}
use Rattle.std.specs.List.{starts_with}
use Rattle.lexer.specs.declared.class.Class.{Class}
use Rattle.lexer.specs.declared.class.Class.TheVariants.{Letter, Digit, Blank, Begins, Other}
use Rattle.lexer.specs.declared.row.Row.TheVariants.{Word, Number, Blanks}
use Rattle.lexer.specs.Bytes.{All, Stops, letter_or_digit, Is_word, Is_number, bytes_of, Proper, Apart, Written, No_end}
use Rattle.lexer.specs.Classes.{letter, digit, blank, class}
use Rattle.lexer.specs.Lexemes.{Lexeme, Seen}
use Rattle.lexer.specs.Lexemes.Lexeme.{word, number, mark, end}
use Rattle.lexer.specs.Lexemes.Seen.{token, long_row, stranger}
use Rattle.lexer.specs.Marks.{spelling}
use Rattle.lexer.specs.Reading.{seen_as, size_as, seen, size, stride}
use Rattle.lexer.specs.Rows.{row_size}
use Rattle.lexer.proofs.Begins.{starts_split}
use Rattle.lexer.proofs.Leading.{leading_yes, front_all, after_stops}
use Rattle.lexer.proofs.RowClasses.{letter_since, digit_since}
use Rattle.lexer.proofs.RowSizes.{word_size, number_size, blanks_size}
use Rattle.lexer.proofs.Runs.{Runs}
use Rattle.lexer.proofs.Seeing.{stride_is}

-- The first n bytes are the token.
pub record Split (l : Lexeme) (t : List ℕ) (n : ℕ) : Type 0 where
  pub bytes : t ≡ bytes_of l ++ drop n t
  pub proper : Proper l
  pub apart : Apart l (drop n t)

-- A test that led to a token has passed, and the token is its own.
chosen : (x : Bool) (k l : Lexeme) (s : Seen) → (s ≡ token l → ⊥) → cond x (token k) s ≡ token l → (x ≡ true) × (k ≡ l)
chosen true k l s h e = (refl, cc)
chosen false k l s h e = absurd (h e)

word_split : (b : ℕ) (bs : List ℕ) → letter b ≡ true → row_size Word (b ∷ bs) ≤ 12 → Split (word (take (row_size Word (b ∷ bs)) (b ∷ bs))) (b ∷ bs) (row_size Word (b ∷ bs))
word_split b bs e h =
    let k : ℕ = prefix_len letter_or_digit bs in
    let n : row_size Word (b ∷ bs) ≡ suc k = word_size (b ∷ bs) ∙ leading_yes letter_or_digit b bs (or_left (letter b) (digit b) e) in
    let few : length (take k bs) ≤ 11 = omega (arith, length-take k bs) in
    record {
      bytes = sym (take-append-drop (row_size Word (b ∷ bs)) (b ∷ bs));
      proper = subst (λ (i : ℕ). Is_word (take i (b ∷ bs))) (sym n) (e, front_all letter_or_digit bs, few);
      apart = subst (λ (i : ℕ). Stops letter_or_digit (drop i (b ∷ bs))) (sym (word_size (b ∷ bs))) (after_stops letter_or_digit (b ∷ bs));
    }

number_split : (b : ℕ) (bs : List ℕ) → digit b ≡ true → row_size Number (b ∷ bs) ≤ 3 → Split (number (take (row_size Number (b ∷ bs)) (b ∷ bs))) (b ∷ bs) (row_size Number (b ∷ bs))
number_split b bs e h =
    let k : ℕ = prefix_len digit bs in
    let n : row_size Number (b ∷ bs) ≡ suc k = number_size (b ∷ bs) ∙ leading_yes digit b bs e in
    let few : length (take k bs) ≤ 2 = omega (arith, length-take k bs) in
    record {
      bytes = sym (take-append-drop (row_size Number (b ∷ bs)) (b ∷ bs));
      proper = subst (λ (i : ℕ). Is_number (take i (b ∷ bs))) (sym n) (e, front_all digit bs, few);
      apart = subst (λ (i : ℕ). Stops digit (drop i (b ∷ bs))) (sym (number_size (b ∷ bs))) (after_stops digit (b ∷ bs));
    }

split_as : (c : Class) (b : ℕ) (bs : List ℕ) (l : Lexeme) → class b ≡ c → seen_as c (b ∷ bs) ≡ token l → Split l (b ∷ bs) (size_as c (b ∷ bs))
split_as Letter b bs l k e =
    let n : ℕ = row_size Word (b ∷ bs) in
    let got = chosen (leb n 12) (word (take n (b ∷ bs))) l long_row (λ h. cc) e in
    subst (λ (m : Lexeme). Split m (b ∷ bs) n) got.1 (word_split b bs (letter_since b k) (leb-true n 12 got.0))
split_as Digit b bs l k e =
    let n : ℕ = row_size Number (b ∷ bs) in
    let got = chosen (leb n 3) (number (take n (b ∷ bs))) l long_row (λ h. cc) e in
    subst (λ (m : Lexeme). Split m (b ∷ bs) n) got.1 (number_split b bs (digit_since b k) (leb-true n 3 got.0))
split_as Blank b bs l k e = cc
split_as (Begins m) b bs l k e =
    let got = chosen (starts_with nat_eq (b ∷ bs) (spelling m)) (mark m) l stranger (λ h. cc) e in
    subst (λ (j : Lexeme). Split j (b ∷ bs) (length (spelling m))) got.1
    (record { bytes = starts_split (spelling m) (b ∷ bs) got.0; proper = tt; apart = tt })
split_as Other b bs l k e = cc

pub split : (t : List ℕ) (l : Lexeme) → seen t ≡ token l → (l ≡ end → ⊥) → Split l t (size t)
split [] l e n = absurd (n (cc))
split (b ∷ bs) l e n = split_as (class b) b bs l refl e

pub runs_written : (ls : List Lexeme) (t : List ℕ) → No_end ls → Runs t ls → Written ls t
runs_written [] t n r = r
runs_written (l ∷ ls) t n r =
    let d = split t l r.0 n.0 in
    let u : List ℕ = drop (size t) t in
    let g : ℕ = row_size Blanks u in
    let whole : take g u ++ drop g u ≡ u = take-append-drop g u in
    let far : drop (stride t) t ≡ drop g u = ap (λ (i : ℕ). drop i t) (stride_is t l r.0 n.0) ∙ sym (drop-drop g (size t) t) in (
      take g u,
      drop g u,
      record {
        bytes = d.bytes ∙ ap (λ (v : List ℕ). bytes_of l ++ v) (sym whole);
        proper = d.proper;
        apart = subst (Apart l) (sym whole) d.apart;
        blanks = subst (λ (i : ℕ). All blank (take i u)) (sym (blanks_size u)) (front_all blank u);
      },
      subst (Written ls) far (runs_written ls (drop (stride t) t) n.1 r.1),
    )
