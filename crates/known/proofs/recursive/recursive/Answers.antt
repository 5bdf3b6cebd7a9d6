use Rattle.std.proofs.Common.{refl}
use Rattle.known.specs.Known.{recursive_table}
use Rattle.known.proofs.Flawless.{exactly, recursive_flaw}
use Rattle.known.proofs.recursive.recursive.Goals as goal

pub returns : goal.returns
returns c = exactly recursive_table c.program.result refl recursive_flaw c.program.ensures
