-- What a table of classes has to hold. Assumes nothing.
use Rattle.std.specs.Prelude.{◌≡◌, List, map}
use Rattle.std.specs.List.{range_with_len}
use Rattle.lexer.specs.declared.class.Class.{Class}
use Rattle.lexer.specs.Classes.{class}

-- The table has an entry for each of the 256 bytes, in their order: the byte's class.
abbrev pub Tabled : List Class → Type 0
Tabled table = table ≡ map class (range_with_len 0 256)
