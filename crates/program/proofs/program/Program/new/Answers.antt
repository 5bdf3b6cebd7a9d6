use Rattle.std.proofs.Common.{sym}
use Rattle.program.specs.Table.{table}
use Rattle.program.proofs.Flawless.{sound_from, flawless}
use Rattle.program.proofs.program.Program.new.Goals as goal

pub invariant_of-result : goal.invariant_of-result
invariant_of-result c = record { sound = sound_from (table c.args.tables) (sym c.in-None.ensures) }

pub returns-in-Some-clause-law : goal.returns-in-Some-clause-law
returns-in-Some-clause-law c = (flawless (table c.args.tables), sound_from (table c.args.tables))
