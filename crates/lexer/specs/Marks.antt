-- The marks as they are written. Assumes nothing.
use Rattle.std.specs.Prelude.{ℕ, List, [], ◌∷◌}
use Rattle.lexer.specs.declared.mark.Mark.{Mark}
use Rattle.lexer.specs.declared.mark.Mark.TheVariants.{Open, Close, Left, Right, Semicolon, Becomes, Plus, Minus, Equal, Less, And, Or, Not, Star, Any}

-- The bytes of a mark.
abbrev pub spelling : Mark → List ℕ
spelling Open = 123 ∷ []
spelling Close = 125 ∷ []
spelling Left = 40 ∷ []
spelling Right = 41 ∷ []
spelling Semicolon = 59 ∷ []
spelling Becomes = 58 ∷ 61 ∷ []
spelling Plus = 43 ∷ []
spelling Minus = 45 ∷ []
spelling Equal = 61 ∷ []
spelling Less = 60 ∷ []
spelling And = 38 ∷ []
spelling Or = 124 ∷ []
spelling Not = 33 ∷ []
spelling Star = 42 ∷ []
spelling Any = 95 ∷ []

-- Every mark.
abbrev pub marks : List Mark
marks = Open ∷ Close ∷ Left ∷ Right ∷ Semicolon ∷ Becomes ∷ Plus ∷ Minus ∷ Equal ∷ Less ∷ And ∷ Or ∷ Not ∷ Star ∷ Any ∷ []
