-- What people read where a machine or the replayer refuses. Assumes nothing.
use Rattle.std.specs.Prelude.{ℕ, List, ◌++◌, codes}
use Rattle.std.specs.Fmt.{decimal}
use Rattle.machine.specs.declared.refusal.Refusal.{Refusal}
use Rattle.machine.specs.declared.refusal.Refusal.TheVariants.{Length, NoStep}
use Rattle.machine.specs.declared.replay_refusal.ReplayRefusal.{ReplayRefusal}
use Rattle.machine.specs.declared.replay_refusal.ReplayRefusal.TheVariants as replay

abbrev pub text : Refusal → List ℕ
text Length = codes "a line or an area of the wrong length"
text NoStep = codes "no step of that number"

abbrev pub replay_text : ReplayRefusal → List ℕ
replay_text replay.Length = codes "an area of the wrong length"
replay_text (replay.NoStep place) = codes "no step of the number at place " ++ decimal place
