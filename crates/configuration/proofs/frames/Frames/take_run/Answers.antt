use Rattle.std.proofs.Common.{◌≡◌, ◌-◌, ◌<◌, ◌≤◌, reverse, length, take, drop, ap, ◌∙◌, sym, arith}
use Rattle.std.proofs.lemmas.List.{length-reverse, length-take, length-drop, take_rest}
use Rattle.fixed.specs.Fixed.{listed}
use Rattle.configuration.proofs.Running.{run_le, leaves_some, stays_some}
use Rattle.configuration.proofs.Backwards.{take_last, drop_last}
use Rattle.configuration.proofs.frames.Frames.take_run.Goals as goal

pub overflow_sub-base : goal.overflow_sub-base
overflow_sub-base g c =
    let xs = listed c.args.self.now.frames in
    omega (arith, run_le (reverse xs), length-reverse xs, c.run-count.ensures.0, c.len.ensures.many)

pub returns-clause-told : goal.returns-clause-told
returns-clause-told g c =
    let xs = listed c.args.self.now.frames in
    let us = c.in-Ok.frames in
    let k = c.run-count.result in
    let base : c.len.result - k ≡ length xs - k = omega (arith, c.len.ensures.many) in
    let some : 0 < k = omega arith in
    let deep : k ≤ length xs = omega (arith, run_le (reverse xs), length-reverse xs, c.run-count.ensures.0) in
    let s = c.as_slice.result.now in
    let b = c.len.result - k in
    let own : listed us ≡ take (length s - b) (drop b s) = c.in-Ok.ensures in
    let is : listed us ≡ drop b xs = own ∙ (take_rest s b ∙ ap (drop b) c.as_slice.ensures.items) in
    let t : reverse (listed us) ≡ take k (reverse xs) = ap reverse (is ∙ ap (λ n. drop n xs) base) ∙ sym (take_last k xs deep) in
    let fits = us.fits in
    let le : k ≤ 3 = omega (arith, ap length is, length-take us.len us.items, length-drop (c.len.result - k) xs, c.len.ensures.many) in
    leaves_some (reverse xs) (reverse (listed us)) k c.run-count.ensures.0 some le t

pub returns-clause-after : goal.returns-clause-after
returns-clause-after g c =
    let xs = listed c.args.self.now.frames in
    let us = c.in-Ok.frames in
    let k = c.run-count.result in
    let base : c.len.result - k ≡ length xs - k = omega (arith, c.len.ensures.many) in
    let some : 0 < k = omega arith in
    let deep : k ≤ length xs = omega (arith, run_le (reverse xs), length-reverse xs, c.run-count.ensures.0) in
    let s = c.as_slice.result.now in
    let b = c.len.result - k in
    let own : listed us ≡ take (length s - b) (drop b s) = c.in-Ok.ensures in
    let is : listed us ≡ drop b xs = own ∙ (take_rest s b ∙ ap (drop b) c.as_slice.ensures.items) in
    let fits = us.fits in
    let le : k ≤ 3 = omega (arith, ap length is, length-take us.len us.items, length-drop (c.len.result - k) xs, c.len.ensures.many) in
    let stays : listed c.truncate.new.self ≡ take (c.len.result - k) xs = c.truncate.ensures in
    stays_some (reverse xs) (reverse (listed c.truncate.new.self)) k c.run-count.ensures.0 some le (ap reverse (stays ∙ ap (λ n. take n xs) base) ∙ sym (drop_last k xs deep))
