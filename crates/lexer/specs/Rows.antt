-- Rows of bytes that belong together. Assumes nothing.
use Rattle.std.specs.Prelude.{ℕ, Bool, true, false, ◌||◌, List}
use Rattle.std.specs.List.{prefix_len}
use Rattle.lexer.specs.declared.class.Class.{Class}
use Rattle.lexer.specs.declared.class.Class.TheVariants.{Letter, Digit, Blank, Begins, Other}
use Rattle.lexer.specs.declared.row.Row.{Row}
use Rattle.lexer.specs.declared.row.Row.TheVariants.{Word, Number, Blanks}
use Rattle.lexer.specs.Classes.{letter, digit, blank}

-- The byte goes on with the row.
unfoldable pub in_row : Row → ℕ → Bool
in_row Word b = letter b || digit b
in_row Number b = digit b
in_row Blanks b = blank b

-- How many bytes the row has at the front of a text.
unfoldable pub row_size : Row → List ℕ → ℕ
row_size r t = prefix_len (in_row r) t

-- The same of the byte's class.
abbrev pub takes : Row → Class → Bool
takes Word Letter = true
takes Word Digit = true
takes Word Blank = false
takes Word (Begins m) = false
takes Word Other = false
takes Number Letter = false
takes Number Digit = true
takes Number Blank = false
takes Number (Begins m) = false
takes Number Other = false
takes Blanks Letter = false
takes Blanks Digit = false
takes Blanks Blank = true
takes Blanks (Begins m) = false
takes Blanks Other = false
