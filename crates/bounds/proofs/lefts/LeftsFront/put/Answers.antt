use Rattle.std.proofs.Common.{◌≡◌, ◌-◌, length, get_or, ap, ◌∙◌, arith}
use Rattle.bounds.specs.Stacks.{spends}
use Rattle.bounds.proofs.Paying.{written_more, written_all, left_at, spends_long}
use Rattle.bounds.proofs.lefts.LeftsFront.put.Goals as goal

pub loop-place-preserved : goal.loop-place-preserved
loop-place-preserved c =
    let bs = c.args.self.now.bounds.now in
    let front = c.args.self.now.bytes.now in
    let i = c.loop-place.place in
    let lefts = spends bs front c.args.kind c.args.delay in
    let long : length lefts ≡ length bs = spends_long bs front c.args.kind c.args.delay c.args.self.now.long in
    written_more c.loop-place.out lefts i c.saturating_sub.result (omega arith) (omega arith)
    (c.saturating_sub.ensures ∙ ap (λ n. get_or front i 0 - n) c.charge.ensures
    ∙ left_at bs front c.args.kind c.args.delay i c.bound-item.result c.loop-place-test.true c.args.self.now.long c.bound-item.is) c.loop-place.invariant

pub returns : goal.returns
returns c =
    let bs = c.args.self.now.bounds.now in
    let front = c.args.self.now.bytes.now in
    let lefts = spends bs front c.args.kind c.args.delay in
    let long : length lefts ≡ length bs = spends_long bs front c.args.kind c.args.delay c.args.self.now.long in
    written_all c.loop-place.out lefts c.loop-place.place (omega arith) (omega arith) c.loop-place.invariant
