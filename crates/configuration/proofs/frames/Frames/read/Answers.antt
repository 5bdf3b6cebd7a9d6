use Rattle.std.proofs.Common.{◌≡◌, ◌+◌, ◌<◌, is_ok, [], ◌∷◌, ◌++◌, reverse, length, ap, ◌∙◌, arith}
use Rattle.std.specs.Slice.Iter.{chunks_exact_rest}
use Rattle.std.proofs.lemmas.List.{length-append}
use Rattle.std.proofs.lemmas.Bool.{lt-ltb}
use Rattle.fixed.specs.Fixed.{listed}
use Rattle.configuration.proofs.ReadFrames.{told, frame_more, frame_none, frames_all}
use Rattle.configuration.proofs.Backwards.{put_behind, one_longer}
use Rattle.configuration.proofs.frames.Frames.read.Goals as goal

pub returns-then-slot-eq0 : goal.returns-then-slot-eq0
returns-then-slot-eq0 g c =
    let s = c.in-Some.slot.now in
    let step = c.in-Some.ensures.steps in
    let long : length s ≡ 3 = step.1.1 ∙ c.loop-slot.invariant.0 in
    ap reverse (frame_none _ (listed c.loop-slot.frames) (chunks_exact_rest c.loop-slot.slot-iterator) s (chunks_exact_rest c.next.new.self) _ long step.1.0 c.if-slot-eq0.true c.loop-slot.invariant.2)

-- There is room, since bytes are left.
pub unwrap-requires : goal.unwrap-requires
unwrap-requires g c =
    let xs = listed c.loop-slot.frames in
    let step = c.in-Some.ensures.steps in
    let long = step.1.1 ∙ c.loop-slot.invariant.0 in
    let parts = ap length step.1.0 ∙ length-append c.in-Some.slot.now (chunks_exact_rest c.next.new.self) in
    c.push.ensures.room ∙ lt-ltb (length xs) g.row.N (omega (arith, long, parts, c.loop-slot.invariant.1))

pub loop-slot-preserved : goal.loop-slot-preserved
loop-slot-preserved g c =
    let xs = listed c.loop-slot.frames in
    let ys = listed c.push.new.self in
    let s = c.in-Some.slot.now in
    let bs = chunks_exact_rest c.loop-slot.slot-iterator in
    let r = chunks_exact_rest c.next.new.self in
    let step = c.in-Some.ensures.steps in
    let long : length s ≡ 3 = step.1.1 ∙ c.loop-slot.invariant.0 in
    let parts : length bs ≡ length s + length r = ap length step.1.0 ∙ length-append s r in
    let room : length xs < g.row.N = omega (arith, long, parts, c.loop-slot.invariant.1) in
    let put = put_behind g.row.N xs ys c.frame_of.result (is_ok c.push.result) c.push.ensures.room room c.push.ensures.after in
    let more : ys ≡ xs ++ told s ∷ [] = put ∙ ap (λ f. xs ++ f ∷ []) c.frame_of.ensures in
    (step.0 ∙ c.loop-slot.invariant.0, omega (arith, one_longer xs ys (told s) more, room, long, parts, c.loop-slot.invariant.1), frame_more g.row.N xs ys bs s r _ room long step.1.0 c.if-slot-eq0.false more c.loop-slot.invariant.2)

pub returns : goal.returns
returns g c =
    let xs = listed c.loop-slot.frames in
    let bs = chunks_exact_rest c.loop-slot.slot-iterator in
    let few : length bs < 3 = omega (arith, c.in-None.ensures.steps.1.0, c.loop-slot.invariant.0) in
    ap reverse (frames_all _ xs bs _ (omega (arith, few, c.loop-slot.invariant.1)) c.loop-slot.invariant.2)
