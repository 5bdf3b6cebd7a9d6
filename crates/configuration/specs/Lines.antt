-- Configurations and lines correspond. Assumes nothing.
use Rattle.std.specs.Prelude.{◌≡◌, ℕ, ◌<◌, true, List, length, slice_index}
use Rattle.program.specs.Table.{Table}
use Rattle.configuration.specs.Config.{Config, Same}
use Rattle.configuration.specs.Layout.{line, width}
use Rattle.configuration.specs.Lawful.{InRange, InSpace, LawfulConfig}
use Rattle.configuration.specs.Tests.{lawful_line}

-- Every configuration within value ranges and size limits, lawful or not, has one line: bytes of the program's width,
-- the same whatever the order of pending tasks, and no other configuration's. A line is lawful exactly when it is the
-- line of a lawful configuration.
pub record LinesLaw (t : Table) : Type 0 where
  pub long : (c : Config) → InRange t c → InSpace c → length (line c) ≡ width t
  pub bytes : (c : Config) → InRange t c → InSpace c → (i : ℕ) → slice_index (line c) i < 256
  pub same_line : (c d : Config) → InRange t c → InSpace c → InRange t d → InSpace d → Same c d → line c ≡ line d
  pub same_config : (c d : Config) → InRange t c → InSpace c → InRange t d → InSpace d → line c ≡ line d → Same c d
  pub lawful : (c : Config) → LawfulConfig t c → lawful_line t (line c) ≡ true
  pub told : (l : List ℕ) → lawful_line t l ≡ true → (c : Config) × (LawfulConfig t c × (line c ≡ l))
