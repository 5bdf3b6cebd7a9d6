-- The numbers by which a machine and the replayer refuse. Assumes nothing.
use Rattle.std.specs.Prelude.{ℕ}
use Rattle.machine.specs.declared.refusal.Refusal.{Refusal}
use Rattle.machine.specs.declared.refusal.Refusal.TheVariants.{Length, NoStep}
use Rattle.machine.specs.declared.replay_refusal.ReplayRefusal.{ReplayRefusal}
use Rattle.machine.specs.declared.replay_refusal.ReplayRefusal.TheVariants as replay

abbrev pub number : Refusal → ℕ
number Length = 10
number NoStep = 11

abbrev pub replay_number : ReplayRefusal → ℕ
replay_number replay.Length = 10
replay_number (replay.NoStep place) = 11
