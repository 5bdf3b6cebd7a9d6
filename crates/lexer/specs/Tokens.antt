-- What a token, or the answer to the question for one, says of a text. Assumes nothing.
use Rattle.std.specs.Prelude.{◌≡◌, ℕ, List, [], take, drop, Ok, Err, Result}
use Rattle.lexer.specs.declared.fault.LexFault.{LexFault}
use Rattle.lexer.specs.declared.token.Token.{Token}
use Rattle.lexer.specs.declared.token.Token.TheVariants.{Word, Number, Mark, End}
use Rattle.lexer.specs.Faults.{fault_offset, fault_seen}
use Rattle.lexer.specs.Lexemes.{Lexeme, Seen, Reader}
use Rattle.lexer.specs.Lexemes.Lexeme.{word, number, mark, end}
use Rattle.lexer.specs.Lexemes.Seen.{token}
use Rattle.lexer.specs.Reading.{size, reader_of}

abbrev pub lexeme_of : Token → Lexeme
lexeme_of (Word p o) = word p.now
lexeme_of (Number p o) = number p.now
lexeme_of (Mark m p o) = mark m
lexeme_of (End o) = end

-- Where the token begins.
abbrev pub offset_of : Token → ℕ
offset_of (Word p o) = o
offset_of (Number p o) = o
offset_of (Mark m p o) = o
offset_of (End o) = o

-- Its own part of the text.
abbrev pub part_of : Token → List ℕ
part_of (Word p o) = p.now
part_of (Number p o) = p.now
part_of (Mark m p o) = p.now
part_of (End o) = []

-- What an answer says was met, and where.
abbrev pub met : Result Token LexFault → Seen
met (Ok t) = token (lexeme_of t)
met (Err f) = fault_seen f

abbrev pub met_at : Result Token LexFault → ℕ
met_at (Ok t) = offset_of t
met_at (Err f) = fault_offset f

-- The part that a token holds is the first n bytes of the rest of the text.
abbrev pub Parted : ℕ → List ℕ → Result Token LexFault → Type 0
Parted n rest (Ok t) = part_of t ≡ take n rest
Parted n rest (Err f) = Unit {0}

-- The answer is that s, of n bytes, stands at the front of the rest of a text, which begins at o.
pub record Told (s : Seen) (n : ℕ) (rest : List ℕ) (o : ℕ) (r : Result Token LexFault) : Type 0 where
  pub what : met r ≡ s
  pub place : met_at r ≡ o
  pub part : Parted n rest r

-- The answer is what the reader of the text sees at o, with its own part of the text.
abbrev pub Tells : List ℕ → ℕ → Result Token LexFault → Type 0
Tells t o r = Told ((reader_of t).look o) (size (drop o t)) (drop o t) o r

-- Where the reading goes on after an answer at o: behind a token, and at o after a fault or at the end.
abbrev pub moved : Reader → ℕ → Result Token LexFault → ℕ
moved r o (Ok (Word p a)) = r.next o
moved r o (Ok (Number p a)) = r.next o
moved r o (Ok (Mark m p a)) = r.next o
moved r o (Ok (End a)) = o
moved r o (Err f) = o
