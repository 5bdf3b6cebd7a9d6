use Rattle.std.proofs.Common.{◌≡◌, take}
use Rattle.bounds.specs.Stacks.{spends}
use Rattle.bounds.proofs.lefts.LeftsFront.put.Given as goal

abbrev pub invariant-loop-place : goal.invariant-loop-place
invariant-loop-place l = take l.place l.out ≡ take l.place (spends l.self.bounds.now l.self.bytes.now l.kind l.delay)
