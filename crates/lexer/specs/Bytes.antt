-- How tokens are written as bytes, and that a text is read exactly so. Assumes nothing.
use Rattle.std.specs.Prelude.{◌≡◌, ℕ, ◌<◌, ◌≤◌, Bool, true, false, ◌||◌, List, [], ◌∷◌, ◌++◌, length, ◌≢◌}
use Rattle.lexer.specs.Classes.{letter, digit, blank}
use Rattle.lexer.specs.Lexemes.{Lexeme, Reader}
use Rattle.lexer.specs.Lexemes.Lexeme.{word, number, mark, end}
use Rattle.lexer.specs.Lexemes.Seen.{token}
use Rattle.lexer.specs.Marks.{spelling}
use Rattle.lexer.specs.Reading.{reader_of}

-- Every byte passes the test.
abbrev pub All : (ℕ → Bool) → List ℕ → Type 0
All p [] = Unit {0}
All p (b ∷ bs) = (p b ≡ true) × All p bs

-- The bytes do not begin with one that passes the test.
abbrev pub Stops : (ℕ → Bool) → List ℕ → Type 0
Stops p [] = Unit {0}
Stops p (b ∷ bs) = p b ≡ false

abbrev pub letter_or_digit : ℕ → Bool
letter_or_digit b = letter b || digit b

-- A letter and up to 11 letters and digits.
abbrev pub Is_word : List ℕ → Type 0
Is_word [] = ⊥
Is_word (b ∷ bs) = (letter b ≡ true) × All letter_or_digit bs × (length bs ≤ 11)

-- One to three digits.
abbrev pub Is_number : List ℕ → Type 0
Is_number [] = ⊥
Is_number (b ∷ bs) = (digit b ≡ true) × All digit bs × (length bs ≤ 2)

-- What a token is written as.
abbrev pub bytes_of : Lexeme → List ℕ
bytes_of (word w) = w
bytes_of (number n) = n
bytes_of (mark m) = spelling m
bytes_of end = []

-- A token that can be written; the end is not.
abbrev pub Proper : Lexeme → Type 0
Proper (word w) = Is_word w
Proper (number n) = Is_number n
Proper (mark m) = Unit {0}
Proper end = ⊥

-- What follows a token does not run together with it.
abbrev pub Apart : Lexeme → List ℕ → Type 0
Apart (word w) after = Stops letter_or_digit after
Apart (number n) after = Stops digit after
Apart (mark m) after = Unit {0}
Apart end after = Unit {0}

-- One token, then blanks, then the rest.
pub record Leads (l : Lexeme) (t gap rest : List ℕ) : Type 0 where
  pub bytes : t ≡ bytes_of l ++ (gap ++ rest)
  pub proper : Proper l
  pub apart : Apart l (gap ++ rest)
  pub blanks : All blank gap

-- The bytes are these tokens, each with blanks behind it, possibly none.
abbrev pub Written : List Lexeme → List ℕ → Type 0
Written [] t = t ≡ []
Written (l ∷ ls) t = (gap : List ℕ) × (rest : List ℕ) × Leads l t gap rest × Written ls rest

-- The text is these tokens, with blanks before them.
abbrev pub Spelt : List Lexeme → List ℕ → Type 0
Spelt ls t = (gap : List ℕ) × (rest : List ℕ) × (t ≡ gap ++ rest) × All blank gap × Written ls rest

-- From a on the reader sees these tokens one after the other, and then stands at b.
abbrev pub Reads : Reader → ℕ → List Lexeme → ℕ → Type 0
Reads r a [] b = a ≡ b
Reads r a (l ∷ ls) b = (r.look a ≡ token l) × Reads r (r.next a) ls b

-- From the first token on the reader sees exactly these, and then the end.
abbrev pub Sees : Reader → List Lexeme → Type 0
Sees r ls = (b : ℕ) × Reads r r.first ls b × (r.look b ≡ token end)

-- The end is not among the tokens.
abbrev pub No_end : List Lexeme → Type 0
No_end [] = Unit {0}
No_end (l ∷ ls) = (l ≢ end) × No_end ls

-- A text spells tokens exactly when its reader sees them and then the end, and the reader always moves on.
pub record TextLaw (t : List ℕ) : Type 0 where
  pub seen : (ls : List Lexeme) → Spelt ls t → Sees (reader_of t) ls
  pub spelt : (ls : List Lexeme) → No_end ls → Sees (reader_of t) ls → Spelt ls t
  pub grows : (o : ℕ) → o < (reader_of t).next o
