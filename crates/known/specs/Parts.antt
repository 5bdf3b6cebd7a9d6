-- The table that parts write down, how the tables are filled with it, and why no program is made. Assumes nothing.
use Rattle.std.specs.Prelude.{◌≡◌, Bool, false, ◌&&◌, length, Some, None, nat_le}
use Rattle.program.specs.declared.program.Program.{Program}
use Rattle.program.specs.Table.{Table}
use Rattle.program.specs.Edits.{empty, with_sizes, with_nodes, with_places, with_procedures, with_mains, with_start}
use Rattle.program.specs.Flaws.{flaw}
use Rattle.program.specs.Programs.{told}
use Rattle.known.specs.declared.parts.Parts.{Parts}
use Rattle.known.specs.declared.error.KnownError.{KnownError}
use Rattle.known.specs.declared.error.KnownError.TheVariants.{Memory, Room, Flawed}

-- What is written down, entry for entry.
abbrev pub parts_table : Parts → Table
parts_table s = record {
  values = s.values;
  globals = s.globals;
  buffers = s.buffers;
  levels = s.levels;
  places = s.places.now;
  nodes = s.nodes.now;
  procedures = s.procedures.now;
  mains = s.mains.now;
  start = s.start.now;
  goal = s.goal.now;
}

-- The tables are filled one after the other; what is in them after each.
abbrev pub after_sizes : Parts → Table
after_sizes s = with_sizes empty s.values s.globals s.buffers s.levels

abbrev pub after_nodes : Parts → Table
after_nodes s = with_nodes (after_sizes s) s.nodes.now

abbrev pub after_places : Parts → Table
after_places s = with_places (after_nodes s) s.places.now

abbrev pub after_procedures : Parts → Table
after_procedures s = with_procedures (after_places s) s.procedures.now

abbrev pub after_mains : Parts → Table
after_mains s = with_mains (after_procedures s) s.mains.now

abbrev pub after_start : Parts → Table
after_start s = with_start (after_mains s) s.start.now

-- No list is longer than its table has room.
abbrev pub fits : Table → Bool
fits t = nat_le (length t.nodes) 4096 && (nat_le (length t.places) 200 && (nat_le (length t.procedures) 16 && (nat_le (length t.mains) 3 && (nat_le (length t.start) 8 && nat_le (length t.goal) 8))))

-- The program of a table, which has no flaw.
abbrev pub Holds : Table → Program → Type 0
Holds t p = (told p ≡ t) × (flaw t ≡ None)

-- Why a table is not made a program. A want of memory says nothing of the table.
abbrev pub Fault : Table → KnownError → Type 0
Fault t Memory = Unit {0}
Fault t Room = fits t ≡ false
Fault t (Flawed f) = flaw t ≡ Some f
