use Rattle.std.proofs.Common.{◌≡◌, drop}
use Rattle.machine.specs.Replays.{replayed}
use Rattle.machine.proofs.replay.follow.Given as goal

-- what is left to replay ends as the whole does
abbrev pub invariant-loop-place : goal.invariant-loop-place
invariant-loop-place g l =
    ((replayed (g.M.Machine.meaning l.machine) l.place-counter l.line (drop l.place-counter l.numbers)).stuck
    ≡ (replayed (g.M.Machine.meaning l.machine) 0 l.initial.line l.numbers).stuck)
    × ((replayed (g.M.Machine.meaning l.machine) l.place-counter l.line (drop l.place-counter l.numbers)).line
    ≡ (replayed (g.M.Machine.meaning l.machine) 0 l.initial.line l.numbers).line)
