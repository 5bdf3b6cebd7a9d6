use Rattle.std.proofs.Common.{refl}
use Rattle.known.specs.Known.{sampler_table}
use Rattle.known.proofs.Flawless.{exactly, sampler_flaw}
use Rattle.known.proofs.sampler.sampler.Goals as goal

pub returns : goal.returns
returns c = exactly sampler_table c.program.result refl sampler_flaw c.program.ensures
