use Rattle.std.proofs.Common.{◌≡◌, map, take}
use Rattle.configuration.specs.Layout.{task_slots}
use Rattle.configuration.specs.Meaning.{frames_of}
use Rattle.configuration.proofs.buffer.Buffer.write_tasks.Given as goal

abbrev pub invariant-loop-n : goal.invariant-loop-n
invariant-loop-n l = l.out ≡ task_slots 6 (map frames_of (take l.n l.tasks))
