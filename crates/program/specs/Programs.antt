-- What a program tells: its tables, which keep the limits. Assumes nothing.
use Rattle.program.specs.declared.program.Program.{Program}
use Rattle.program.specs.Table.{Table, table}
use Rattle.program.specs.Limits.{Sound}

abbrev pub told : Program → Table
told p = table p.tables

pub sound : (p : Program) → Sound (told p)
sound p = p.sound
