-- What stands in a text: tokens, one after the other. Assumes nothing.
use Rattle.std.specs.Prelude.{ℕ, List}
use Rattle.lexer.specs.declared.mark.Mark.{Mark}

-- A token: a word by its letters and digits, a number by its digits, a mark, or the end of the text.
pub data Lexeme : Type 0 where
  word : List ℕ → Lexeme
  number : List ℕ → Lexeme
  mark : Mark → Lexeme
  end : Lexeme

-- What is met at an offset: a token, a row of letters and digits that is too long, or a byte that no token has there.
pub data Seen : Type 0 where
  token : Lexeme → Seen
  long_row : Seen
  stranger : Seen

-- A text as a reader over offsets: where its first token begins, what is met at an offset, and where the token after
-- the one at an offset begins.
pub record Reader : Type 0 where
  pub first : ℕ
  pub look : ℕ → Seen
  pub next : ℕ → ℕ
