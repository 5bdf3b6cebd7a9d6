use Rattle.std.proofs.Common.{◌≡◌, map, drop}
use Rattle.configuration.specs.Tests.{ascends}
use Rattle.configuration.specs.Meaning.{frames_of}
use Rattle.configuration.proofs.CheckAscending.{rises}
use Rattle.configuration.proofs.ascending.ascending.Given as goal

abbrev pub invariant-loop-task : goal.invariant-loop-task
invariant-loop-task l = rises l.last (map frames_of (drop l.task-index l.tasks)) ≡ ascends (map frames_of l.tasks)
