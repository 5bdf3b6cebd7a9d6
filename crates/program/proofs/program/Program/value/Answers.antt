use Rattle.program.specs.Values.{value}
use Rattle.program.specs.Worths.{valued}
use Rattle.program.specs.Programs.{sound}
use Rattle.program.proofs.program.Program.value.Goals as goal

pub returns : goal.returns
unfolding value
returns c = record { told = c.worth.ensures; law = valued _ _ _ _ (sound c.args.self.now) }
