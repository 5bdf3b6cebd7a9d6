-- The class of a byte. Assumes nothing.
use Rattle.std.specs.Prelude.{ℕ, Bool, cond, ◌&&◌, ◌||◌, List, [], ◌∷◌, ◌==◌, nat_le, slice_index}
use Rattle.lexer.specs.declared.class.Class.{Class}
use Rattle.lexer.specs.declared.class.Class.TheVariants.{Letter, Digit, Blank, Begins, Other}
use Rattle.lexer.specs.declared.mark.Mark.{Mark}
use Rattle.lexer.specs.Marks.{spelling, marks}

-- a to z
abbrev pub letter : ℕ → Bool
letter b = nat_le 97 b && nat_le b 122

-- 0 to 9
abbrev pub digit : ℕ → Bool
digit b = nat_le 48 b && nat_le b 57

-- The space, the tab, the line feed and the carriage return stand between tokens.
abbrev pub blank : ℕ → Bool
blank b = b == 32 || (b == 9 || (b == 10 || b == 13))

-- The byte begins the first of these marks that is written with it in front, or none of them.
abbrev pub begun : ℕ → List Mark → Class
begun b [] = Other
begun b (m ∷ ms) = cond (b == slice_index (spelling m) 0) (Begins m) (begun b ms)

unfoldable pub class : ℕ → Class
class b = cond (letter b) Letter (cond (digit b) Digit (cond (blank b) Blank (begun b marks)))
