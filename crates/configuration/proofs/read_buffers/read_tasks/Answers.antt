use Rattle.std.proofs.Common.{◌≡◌, ◌+◌, ◌<◌, is_ok, length, ap, ◌∙◌, arith}
use Rattle.std.specs.Slice.Iter.{chunks_exact_rest}
use Rattle.std.proofs.lemmas.List.{length-append}
use Rattle.std.proofs.lemmas.Bool.{lt-ltb}
use Rattle.fixed.specs.Fixed.{listed}
use Rattle.configuration.proofs.ReadTasks.{task_more, task_none, tasks_all}
use Rattle.configuration.proofs.Backwards.{put_behind, one_longer}
use Rattle.configuration.proofs.read_buffers.read_tasks.Goals as goal

pub returns-then-nine-eq0 : goal.returns-then-nine-eq0
returns-then-nine-eq0 c =
    let s = c.in-Some.nine.now in
    let step = c.in-Some.ensures.steps in
    let long : length s ≡ 9 = step.1.1 ∙ c.loop-nine.invariant.0 in
    task_none _ (listed c.loop-nine.tasks) (chunks_exact_rest c.loop-nine.nine-iterator) s (chunks_exact_rest c.next.new.self) _ long step.1.0 c.if-nine-eq0.true c.loop-nine.invariant.2

-- There is room, since bytes are left.
pub unwrap-requires : goal.unwrap-requires
unwrap-requires c =
    let us = listed c.loop-nine.tasks in
    let step = c.in-Some.ensures.steps in
    let long = step.1.1 ∙ c.loop-nine.invariant.0 in
    let parts = ap length step.1.0 ∙ length-append c.in-Some.nine.now (chunks_exact_rest c.next.new.self) in
    c.push.ensures.room ∙ lt-ltb (length us) 6 (omega (arith, long, parts, c.loop-nine.invariant.1))

pub loop-nine-preserved : goal.loop-nine-preserved
loop-nine-preserved c =
    let us = listed c.loop-nine.tasks in
    let vs = listed c.push.new.self in
    let u = c.read.result in
    let s = c.in-Some.nine.now in
    let bs = chunks_exact_rest c.loop-nine.nine-iterator in
    let r = chunks_exact_rest c.next.new.self in
    let step = c.in-Some.ensures.steps in
    let long : length s ≡ 9 = step.1.1 ∙ c.loop-nine.invariant.0 in
    let parts : length bs ≡ length s + length r = ap length step.1.0 ∙ length-append s r in
    let room : length us < 6 = omega (arith, long, parts, c.loop-nine.invariant.1) in
    let put = put_behind 6 us vs u (is_ok c.push.result) c.push.ensures.room room c.push.ensures.after in
    (step.0 ∙ c.loop-nine.invariant.0, omega (arith, one_longer us vs u put, room, long, parts, c.loop-nine.invariant.1), task_more 6 us vs u bs s r _ room long step.1.0 c.if-nine-eq0.false c.read.ensures put c.loop-nine.invariant.2)

pub returns : goal.returns
returns c =
    let us = listed c.loop-nine.tasks in
    let bs = chunks_exact_rest c.loop-nine.nine-iterator in
    let few : length bs < 9 = omega (arith, c.in-None.ensures.steps.1.0, c.loop-nine.invariant.0) in
    tasks_all _ us bs _ (omega (arith, few, c.loop-nine.invariant.1)) c.loop-nine.invariant.2
