-- What is written as tokens is read as these tokens. Assumes nothing.
use Rattle.std.proofs.Common.{◌≡◌, ℕ, ◌≤◌, true, leb, nat_eq, List, [], ◌∷◌, ◌++◌, length, take, drop, sym, refl, ap, ◌∙◌, subst, arith}
use Rattle.std.proofs.lemmas.List.{take_at, drop_at, drop-drop}
use Rattle.std.proofs.lemmas.Bool.{cond-true, le-leb, or_left}
use Rattle.std.specs.List.{starts_with}
use Rattle.lexer.specs.declared.class.Class.{Class}
use Rattle.lexer.specs.declared.class.Class.TheVariants.{Letter, Digit}
use Rattle.lexer.specs.declared.mark.Mark.{Mark}
use Rattle.lexer.specs.declared.row.Row.TheVariants.{Word, Number, Blanks}
use Rattle.lexer.specs.Bytes.{All, Stops, letter_or_digit, Is_word, Is_number, bytes_of, Proper, Apart, Written}
use Rattle.lexer.specs.Classes.{letter, digit, blank, class}
use Rattle.lexer.specs.Lexemes.{Lexeme}
use Rattle.lexer.specs.Lexemes.Lexeme.{word, number, mark, end}
use Rattle.lexer.specs.Lexemes.Seen.{token, long_row, stranger}
use Rattle.lexer.specs.Marks.{spelling}
use Rattle.lexer.specs.Reading.{row_seen, seen_as, size_as, seen, size, stride}
use Rattle.lexer.specs.Rows.{row_size}
use Rattle.lexer.proofs.Begins.{starts_joined}
use Rattle.lexer.proofs.Leading.{leading_joined}
use Rattle.lexer.proofs.MarkFronts.{begins}
use Rattle.lexer.proofs.RowClasses.{of_letter, of_digit, letter_no_blank, digit_no_blank, digit_no_letter, no_blank_since}
use Rattle.lexer.proofs.RowSizes.{word_size, number_size, blanks_size}
use Rattle.lexer.proofs.Runs.{Runs}
use Rattle.lexer.proofs.Seeing.{stride_is}

-- At the front stands the token, and nothing of what follows.
pub record Stands (l : Lexeme) (t : List ℕ) : Type 0 where
  pub what : seen t ≡ token l
  pub long : size t ≡ length (bytes_of l)

row_stands : (kind : List ℕ → Lexeme) (most : ℕ) (w u : List ℕ) (n : ℕ) → n ≡ length w → length w ≤ most → row_seen kind most n (w ++ u) ≡ token (kind w)
row_stands kind most w u n e h =
    ap (λ (i : ℕ). row_seen kind most i (w ++ u)) e ∙ cond-true (leb (length w) most) (token (kind (take (length w) (w ++ u)))) long_row (le-leb (length w) most h) ∙ ap (λ (v : List ℕ). token (kind v)) (take_at w u (length w) refl)

word_stands : (w u : List ℕ) → Is_word w → Stops letter_or_digit u → Stands (word w) (w ++ u)
word_stands [] u i s = absurd i
word_stands (b ∷ bs) u i s =
    let kind_is : class b ≡ Letter = of_letter b i.0 in
    let n : row_size Word (b ∷ (bs ++ u)) ≡ length (b ∷ bs) = word_size (b ∷ (bs ++ u)) ∙ leading_joined letter_or_digit (b ∷ bs) u (or_left (letter b) (digit b) i.0, i.1) s in
    let few : length bs ≤ 11 = i.2 in
    record {
      what = ap (λ (k : Class). seen_as k (b ∷ (bs ++ u))) kind_is ∙ row_stands word 12 (b ∷ bs) u (row_size Word (b ∷ (bs ++ u))) n (omega arith);
      long = ap (λ (k : Class). size_as k (b ∷ (bs ++ u))) kind_is ∙ n;
    }

number_stands : (w u : List ℕ) → Is_number w → Stops digit u → Stands (number w) (w ++ u)
number_stands [] u i s = absurd i
number_stands (b ∷ bs) u i s =
    let kind_is : class b ≡ Digit = of_digit b (digit_no_letter b i.0) i.0 in
    let n : row_size Number (b ∷ (bs ++ u)) ≡ length (b ∷ bs) = number_size (b ∷ (bs ++ u)) ∙ leading_joined digit (b ∷ bs) u (i.0, i.1) s in
    let few : length bs ≤ 2 = i.2 in
    record {
      what = ap (λ (k : Class). seen_as k (b ∷ (bs ++ u))) kind_is ∙ row_stands number 3 (b ∷ bs) u (row_size Number (b ∷ (bs ++ u))) n (omega arith);
      long = ap (λ (k : Class). size_as k (b ∷ (bs ++ u))) kind_is ∙ n;
    }

mark_stands : (m : Mark) (u : List ℕ) → Stands (mark m) (spelling m ++ u)
mark_stands m u =
    let g = begins m in
    let t : List ℕ = g.byte ∷ (g.rest ++ u) in
    let whole : starts_with nat_eq t (spelling m) ≡ true = ap (λ (f : List ℕ). starts_with nat_eq t f) g.is ∙ starts_joined (g.byte ∷ g.rest) u in
    subst (λ (f : List ℕ). Stands (mark m) (f ++ u)) (sym g.is)
    (record {
      what = ap (λ (k : Class). seen_as k t) g.as_class ∙ cond-true (starts_with nat_eq t (spelling m)) (token (mark m)) stranger whole;
      long = ap (λ (k : Class). size_as k t) g.as_class;
    })

pub stands : (l : Lexeme) (u : List ℕ) → Proper l → Apart l u → Stands l (bytes_of l ++ u)
stands (word w) u p a = word_stands w u p a
stands (number n) u p a = number_stands n u p a
stands (mark m) u p a = mark_stands m u
stands end u p a = absurd p

proper_no_end : (l : Lexeme) → Proper l → l ≡ end → ⊥
proper_no_end l p e = subst Proper e p

-- No token begins with a blank.
no_blank : (l : Lexeme) (u : List ℕ) → Proper l → Stops blank (bytes_of l ++ u)
no_blank (word []) u p = absurd p
no_blank (word (b ∷ bs)) u p = letter_no_blank b p.0
no_blank (number []) u p = absurd p
no_blank (number (b ∷ bs)) u p = digit_no_blank b p.0
no_blank (mark m) u p = let g = begins m in subst (λ (f : List ℕ). Stops blank (f ++ u)) (sym g.is) (no_blank_since g.byte m g.as_class)
no_blank end u p = absurd p

pub written_stops : (ls : List Lexeme) (t : List ℕ) → Written ls t → Stops blank t
written_stops [] t w = subst (Stops blank) (sym w) tt
written_stops (l ∷ ls) t w = subst (Stops blank) (sym w.2.bytes) (no_blank l (w.0 ++ w.1) w.2.proper)

-- Behind the token and its blanks begins the rest.
passed : (l : Lexeme) (gap rest : List ℕ) → Proper l → Stands l (bytes_of l ++ (gap ++ rest)) → All blank gap → Stops blank rest → drop (stride (bytes_of l ++ (gap ++ rest))) (bytes_of l ++ (gap ++ rest)) ≡ rest
passed l gap rest p s a q =
    let t : List ℕ = bytes_of l ++ (gap ++ rest) in
    let behind : drop (size t) t ≡ gap ++ rest = drop_at (bytes_of l) (gap ++ rest) (size t) (sym s.long) in
    let blanks : row_size Blanks (drop (size t) t) ≡ length gap = ap (row_size Blanks) behind ∙ blanks_size (gap ++ rest) ∙ leading_joined blank gap rest a q in
    ap (λ (i : ℕ). drop i t) (stride_is t l s.what (proper_no_end l p)) ∙ sym (drop-drop (row_size Blanks (drop (size t) t)) (size t) t) ∙ ap (drop (row_size Blanks (drop (size t) t))) behind ∙ drop_at gap rest (row_size Blanks (drop (size t) t)) (sym blanks)

pub written_runs : (ls : List Lexeme) (t : List ℕ) → Written ls t → Runs t ls
written_runs [] t w = w
written_runs (l ∷ ls) t w =
    let d = w.2 in
    let s = stands l (w.0 ++ w.1) d.proper d.apart in
    let far = passed l w.0 w.1 d.proper s d.blanks (written_stops ls w.1 w.3) in
    subst (λ (u : List ℕ). Runs u (l ∷ ls)) (sym d.bytes)
    (s.what, subst (λ (u : List ℕ). Runs u ls) (sym far) (written_runs ls w.1 w.3))
