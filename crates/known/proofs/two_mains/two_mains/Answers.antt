use Rattle.std.proofs.Common.{refl}
use Rattle.known.specs.Known.{two_mains_table}
use Rattle.known.proofs.Flawless.{exactly, two_mains_flaw}
use Rattle.known.proofs.two_mains.two_mains.Goals as goal

pub returns : goal.returns
returns c = exactly two_mains_table c.program.result refl two_mains_flaw c.program.ensures
