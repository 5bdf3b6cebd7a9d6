-- A text read from left to right. Assumes nothing.
use Rattle.std.specs.Prelude.{ℕ, ◌+◌, cond, List, [], ◌∷◌, length, take, drop, nat_eq, nat_le}
use Rattle.std.specs.List.{starts_with}
use Rattle.lexer.specs.declared.class.Class.{Class}
use Rattle.lexer.specs.declared.class.Class.TheVariants.{Letter, Digit, Blank, Begins, Other}
use Rattle.lexer.specs.declared.mark.Mark.{Mark}
use Rattle.lexer.specs.declared.row.Row.TheVariants.{Word, Number, Blanks}
use Rattle.lexer.specs.Classes.{class}
use Rattle.lexer.specs.Lexemes.{Lexeme, Seen, Reader}
use Rattle.lexer.specs.Lexemes.Lexeme.{word, number, mark, end}
use Rattle.lexer.specs.Lexemes.Seen.{token, long_row, stranger}
use Rattle.lexer.specs.Marks.{spelling}
use Rattle.lexer.specs.Rows.{row_size}

-- A row of n bytes at the front of a text is a token, unless it has more bytes than it may have.
abbrev pub row_seen : (List ℕ → Lexeme) → ℕ → ℕ → List ℕ → Seen
row_seen kind most n t = cond (nat_le n most) (token (kind (take n t))) long_row

-- A mark stands there with all of its bytes, or its first byte is a stranger.
abbrev pub mark_seen : Mark → List ℕ → Seen
mark_seen m t = cond (starts_with nat_eq t (spelling m)) (token (mark m)) stranger

-- What stands at the front of a text whose first byte has this class. No token begins with a blank.
abbrev pub seen_as : Class → List ℕ → Seen
seen_as Letter t = row_seen word 12 (row_size Word t) t
seen_as Digit t = row_seen number 3 (row_size Number t) t
seen_as Blank t = stranger
seen_as (Begins m) t = mark_seen m t
seen_as Other t = stranger

-- How many bytes it has.
abbrev pub size_as : Class → List ℕ → ℕ
size_as Letter t = row_size Word t
size_as Digit t = row_size Number t
size_as Blank t = 1
size_as (Begins m) t = length (spelling m)
size_as Other t = 1

-- What stands at the front of a text, and how many bytes it has.
abbrev pub seen : List ℕ → Seen
seen [] = token end
seen (b ∷ bs) = seen_as (class b) (b ∷ bs)

abbrev pub size : List ℕ → ℕ
size [] = 0
size (b ∷ bs) = size_as (class b) (b ∷ bs)

-- How far behind it the next token begins: past its bytes and the blanks after them. The end is passed by one.
abbrev pub stride : List ℕ → ℕ
stride [] = 1
stride (b ∷ bs) = size (b ∷ bs) + row_size Blanks (drop (size (b ∷ bs)) (b ∷ bs))

abbrev pub reader_of : List ℕ → Reader
reader_of t = record { first = row_size Blanks t; look = λ o. seen (drop o t); next = λ o. o + stride (drop o t) }
