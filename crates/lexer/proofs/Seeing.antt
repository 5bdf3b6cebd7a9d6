-- What stands at the front of a text, and how far it reaches. Assumes nothing.
use Rattle.std.proofs.Common.{◌≡◌, ℕ, ◌+◌, ◌≤◌, Bool, true, false, cond, leb, nat_eq, List, [], ◌∷◌, length, take, drop, Ok, sym, refl, ap, ◌∙◌, add-zero, arith}
use Rattle.std.proofs.lemmas.List.{drop-drop, length-take-le}
use Rattle.std.specs.List.{starts_with}
use Rattle.lexer.specs.declared.class.Class.{Class}
use Rattle.lexer.specs.declared.class.Class.TheVariants.{Letter, Digit, Blank, Begins, Other}
use Rattle.lexer.specs.declared.row.Row.TheVariants.{Blanks}
use Rattle.lexer.specs.declared.row.Row.TheVariants.{Word as Word-row, Number as Number-row}
use Rattle.lexer.specs.declared.token.Token.{Token}
use Rattle.lexer.specs.declared.token.Token.TheVariants.{Word, Number, Mark, End}
use Rattle.lexer.specs.Classes.{class}
use Rattle.lexer.specs.Lexemes.{Lexeme, Seen}
use Rattle.lexer.specs.Lexemes.Lexeme.{word, number, mark, end}
use Rattle.lexer.specs.Lexemes.Seen.{token, long_row, stranger}
use Rattle.lexer.specs.Marks.{spelling}
use Rattle.lexer.specs.Reading.{seen_as, size_as, seen, size, stride, reader_of}
use Rattle.lexer.specs.Rows.{row_size}
use Rattle.lexer.specs.Tokens.{part_of, Tells, moved}
use Rattle.lexer.proofs.Begins.{starts_within}
use Rattle.lexer.proofs.RowSizes.{row_within, row_ends}

-- A row, or a mark, that is a token lies within the text.
mark_within : (b : Bool) (l k : Lexeme) (m n : ℕ) → (b ≡ true → m ≤ n) → cond b (token k) stranger ≡ token l → m ≤ n
mark_within true l k m n h e = h refl
mark_within false l k m n h e = cc

size_as_within : (c : Class) (t : List ℕ) (l : Lexeme) → seen_as c t ≡ token l → size_as c t ≤ length t
size_as_within Letter t l e = row_within Word-row t
size_as_within Digit t l e = row_within Number-row t
size_as_within Blank t l e = cc
size_as_within (Begins m) t l e = mark_within (starts_with nat_eq t (spelling m)) l (mark m) (length (spelling m)) (length t) (starts_within (spelling m) t) e
size_as_within Other t l e = cc

pub size_within : (t : List ℕ) (l : Lexeme) → seen t ≡ token l → size t ≤ length t
size_within [] l e = omega arith
size_within (b ∷ bs) l e = size_as_within (class b) (b ∷ bs) l e

-- Only the end of a text is the end.
cond_no_end : (b : Bool) (k : Lexeme) (s : Seen) → (k ≡ end → ⊥) → (s ≡ token end → ⊥) → cond b (token k) s ≡ token end → ⊥
cond_no_end true k s h i e = h (cc)
cond_no_end false k s h i e = i e

as_no_end : (c : Class) (t : List ℕ) → seen_as c t ≡ token end → ⊥
as_no_end Letter t e = cond_no_end (leb (row_size Word-row t) 12) (word (take (row_size Word-row t) t)) long_row (λ h. cc) (λ h. cc) e
as_no_end Digit t e = cond_no_end (leb (row_size Number-row t) 3) (number (take (row_size Number-row t) t)) long_row (λ h. cc) (λ h. cc) e
as_no_end Blank t e = cc
as_no_end (Begins m) t e = cond_no_end (starts_with nat_eq t (spelling m)) (mark m) stranger (λ h. cc) (λ h. cc) e
as_no_end Other t e = cc

pub end_empty : (t : List ℕ) → seen t ≡ token end → t ≡ []
end_empty [] e = refl
end_empty (b ∷ bs) e = absurd (as_no_end (class b) (b ∷ bs) e)

-- How far behind such a token the next begins.
pub stride_is : (t : List ℕ) (l : Lexeme) → seen t ≡ token l → (l ≡ end → ⊥) → stride t ≡ size t + row_size Blanks (drop (size t) t)
stride_is [] l e ne = absurd (ne (cc))
stride_is (b ∷ bs) l e ne = refl

at_rest : (o : ℕ) (t : List ℕ) (l : Lexeme) (n : ℕ) (u : List ℕ) → seen t ≡ token l → (l ≡ end → ⊥) → n ≡ size t → drop n t ≡ u → o + n + row_size Blanks u ≡ o + stride t
at_rest o [] l n u e ne k s = absurd (ne (cc))
at_rest o (b ∷ bs) l n u e ne k s =
    let blanks : row_size Blanks u ≡ row_size Blanks (drop (size (b ∷ bs)) (b ∷ bs)) = ap (row_size Blanks) (sym s ∙ ap (λ (i : ℕ). drop i (b ∷ bs)) k) in
    omega arith

-- Behind a token that is not the end, past the blanks, begins the next.
pub behind : (text : List ℕ) (o : ℕ) (l : Lexeme) (p : List ℕ) → seen (drop o text) ≡ token l → (l ≡ end → ⊥) → p ≡ take (size (drop o text)) (drop o text) → o + length p + row_size Blanks (drop (o + length p) text) ≡ o + stride (drop o text)
behind text o l p e ne q =
    let long : length p ≡ size (drop o text) = ap length q ∙ length-take-le (size (drop o text)) (drop o text) (size_within (drop o text) l e) in
    let same : drop (length p) (drop o text) ≡ drop (o + length p) text = drop-drop (length p) o text in
    at_rest o (drop o text) l (length p) (drop (o + length p) text) e ne long same

pub moves : (text : List ℕ) (o : ℕ) (t : Token) → Tells text o (Ok t) → o + length (part_of t) + row_size Blanks (drop (o + length (part_of t)) text) ≡ moved (reader_of text) o (Ok t)
moves text o (Word p a) w = behind text o (word p.now) p.now (sym w.what) (λ h. cc) w.part
moves text o (Number p a) w = behind text o (number p.now) p.now (sym w.what) (λ h. cc) w.part
moves text o (Mark m p a) w = behind text o (mark m) p.now (sym w.what) (λ h. cc) w.part
moves text o (End a) w =
    let none : drop (o + 0) text ≡ [] = ap (λ (i : ℕ). drop i text) (add-zero o) ∙ end_empty (drop o text) (sym w.what) in
    let blanks : row_size Blanks (drop (o + 0) text) ≡ 0 = ap (row_size Blanks) none ∙ row_ends Blanks [] 0 (omega arith) in
    omega arith
