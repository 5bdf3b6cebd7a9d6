use Rattle.std.proofs.Common.{◌≡◌, length, ◌∙◌, arith}
use Rattle.std.proofs.lemmas.List.{length-map}
use Rattle.rule.specs.declared.bound.Bound.{Bound}
use Rattle.bounds.specs.Stacks.{budgets}
use Rattle.bounds.proofs.Paying.{written_more, budget_at}
use Rattle.bounds.proofs.lefts.put_budgets.Goals as goal

pub loop-place-preserved : goal.loop-place-preserved
loop-place-preserved c =
    let bs = c.args.bounds.now in
    let long : length (budgets bs) ≡ length bs = length-map bs (λ (b : Bound). b.budget) in
    written_more c.loop-place.out (budgets bs) c.loop-place.place c.first.result (omega arith) (omega arith)
    (c.first.ensures ∙ budget_at bs c.loop-place.place c.index-bounds-place.result c.loop-place-test.true c.index-bounds-place.is) c.loop-place.invariant
