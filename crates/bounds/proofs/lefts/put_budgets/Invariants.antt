use Rattle.std.proofs.Common.{◌≡◌, take}
use Rattle.bounds.specs.Stacks.{budgets}
use Rattle.bounds.proofs.lefts.put_budgets.Given as goal

abbrev pub invariant-loop-place : goal.invariant-loop-place
invariant-loop-place l = take l.place l.out ≡ take l.place (budgets l.bounds)
