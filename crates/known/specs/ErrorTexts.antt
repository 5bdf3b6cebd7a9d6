-- How it is printed why a known program is not made. Assumes nothing.
use Rattle.std.specs.Prelude.{ℕ, List, ◌++◌, codes}
use Rattle.program.specs.FlawTexts.{flaw_text}
use Rattle.known.specs.declared.error.KnownError.{KnownError}
use Rattle.known.specs.declared.error.KnownError.TheVariants.{Memory, Room, Flawed}

abbrev pub error_text : KnownError → List ℕ
error_text Memory = codes "no memory for the tables"
error_text Room = codes "no room for all entries"
error_text (Flawed flaw) = codes "the tables are no program: " ++ flaw_text flaw
