use Rattle.known.proofs.Flawless.{bumps_exactly}
use Rattle.known.proofs.bumps.bumps.Goals as goal

pub returns : goal.returns
returns c = bumps_exactly c.args.goal c.program.result c.program.ensures
