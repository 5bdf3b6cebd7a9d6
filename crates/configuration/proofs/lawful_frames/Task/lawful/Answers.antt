use Rattle.std.proofs.Common.{◌≡◌, Bool, true, false, not, eqb, List, reverse, length, drop, sym, ap, ◌∙◌}
use Rattle.std.specs.List.{list_all, zip}
use Rattle.std.proofs.lemmas.List.{length-reverse}
use Rattle.fixed.specs.Fixed.{listed}
use Rattle.program.specs.Programs.{told}
use Rattle.configuration.specs.declared.frame.Frame.{Frame}
use Rattle.configuration.specs.Tests.{called_by, each_pair, some_frames, lawful_task}
use Rattle.configuration.specs.Meaning.{frames_of}
use Rattle.configuration.proofs.CheckAll.{first_passed, first_failed, some_long}
use Rattle.configuration.proofs.CheckFrames.{pairs_backwards}
use Rattle.configuration.proofs.lawful_frames.Task.lawful.Goals as goal

some : (xs : List Frame) (b : Bool) → b ≡ eqb (length xs) 0 → not b ≡ some_frames (reverse xs)
some xs b e = ap not e ∙ sym (some_long (reverse xs) (length xs) (length-reverse xs))

pub returns-then-is_empty : goal.returns-then-is_empty
unfolding lawful_task
returns-then-is_empty c = first_failed _ _ (some (listed c.args.self.now.frames) true c.if-is_empty.ensures)

pub returns-then-ranged : goal.returns-then-ranged
unfolding lawful_task
returns-then-ranged c =
    let xs = listed c.args.self.now.frames in
    let r = called_by (told c.args.program.now) in
    let e : c.all_called.result ≡ list_all (λ p. r p.1 p.0) (zip c.as_slice.result.now (drop 1 c.as_slice.result.now)) = c.all_called.ensures in
    let pairs : c.all_called.result ≡ each_pair r (frames_of c.args.self.now) = e ∙ (ap (λ (ys : List Frame). list_all (λ p. r p.1 p.0) (zip ys (drop 1 ys))) c.as_slice.ensures.items ∙ pairs_backwards r xs) in
    first_passed _ _ _ (some xs false c.if-is_empty.ensures) (first_passed _ _ _ c.if-ranged.ensures pairs)

pub returns-else-ranged : goal.returns-else-ranged
unfolding lawful_task
returns-else-ranged c =
    first_passed _ _ _ (some (listed c.args.self.now.frames) false c.if-is_empty.ensures) (c.if-ranged.false ∙ first_failed _ _ c.if-ranged.ensures)
