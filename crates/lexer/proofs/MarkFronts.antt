-- The first byte of each mark. Assumes nothing.
use Rattle.std.proofs.Common.{◌≡◌, ℕ, List, [], ◌∷◌, refl}
use Rattle.lexer.specs.declared.class.Class.TheVariants.{Begins}
use Rattle.lexer.specs.declared.mark.Mark.{Mark}
use Rattle.lexer.specs.declared.mark.Mark.TheVariants.{Open, Close, Left, Right, Semicolon, Becomes, Plus, Minus, Equal, Less, And, Or, Not, Star, Any}
use Rattle.lexer.specs.Classes.{class}
use Rattle.lexer.specs.Marks.{spelling}

-- The mark has a first byte, whose class says that it begins the mark.
pub record Begun (m : Mark) : Type 0 where
  pub byte : ℕ
  pub rest : List ℕ
  pub is : spelling m ≡ byte ∷ rest
  pub as_class : class byte ≡ Begins m

pub begins : (m : Mark) → Begun m
unfolding class
begins Open = record { byte = 123; rest = []; is = refl; as_class = refl }
begins Close = record { byte = 125; rest = []; is = refl; as_class = refl }
begins Left = record { byte = 40; rest = []; is = refl; as_class = refl }
begins Right = record { byte = 41; rest = []; is = refl; as_class = refl }
begins Semicolon = record { byte = 59; rest = []; is = refl; as_class = refl }
begins Becomes = record { byte = 58; rest = 61 ∷ []; is = refl; as_class = refl }
begins Plus = record { byte = 43; rest = []; is = refl; as_class = refl }
begins Minus = record { byte = 45; rest = []; is = refl; as_class = refl }
begins Equal = record { byte = 61; rest = []; is = refl; as_class = refl }
begins Less = record { byte = 60; rest = []; is = refl; as_class = refl }
begins And = record { byte = 38; rest = []; is = refl; as_class = refl }
begins Or = record { byte = 124; rest = []; is = refl; as_class = refl }
begins Not = record { byte = 33; rest = []; is = refl; as_class = refl }
begins Star = record { byte = 42; rest = []; is = refl; as_class = refl }
begins Any = record { byte = 95; rest = []; is = refl; as_class = refl }
