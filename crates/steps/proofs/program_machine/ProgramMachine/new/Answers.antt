use Rattle.std.proofs.Common.{refl}
use Rattle.program.specs.Programs.{told, sound}
use Rattle.steps.proofs.ProgramProof.{program_law}
use Rattle.steps.proofs.program_machine.ProgramMachine.new.Goals as goal

pub returns : goal.returns
returns c = record { is = refl; law = program_law (told c.args.program) (sound c.args.program) }
