use Rattle.std.proofs.Common.{refl}
use Rattle.known.specs.Known.{puts_table}
use Rattle.known.proofs.Flawless.{exactly, puts_flaw}
use Rattle.known.proofs.puts.puts.Goals as goal

pub returns : goal.returns
returns c = exactly puts_table c.program.result refl puts_flaw c.program.ensures
