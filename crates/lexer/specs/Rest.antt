-- What is left of a text. Assumes nothing.
use Rattle.std.specs.Prelude.{ℕ, List, drop}
use Rattle.lexer.specs.declared.lexer.Lexer.{Lexer}

-- The text from the next token on.
abbrev pub rest_of : Lexer → List ℕ
rest_of l = drop l.at l.text.now
