use Rattle.std.proofs.Common.{◌≡◌, List, drop, ap, ◌∙◌}
use Rattle.std.specs.List.{list_all, zip}
use Rattle.fixed.specs.Fixed.{listed}
use Rattle.program.specs.Programs.{told}
use Rattle.configuration.specs.declared.frame.Frame.{Frame}
use Rattle.configuration.specs.Tests.{rests_on, each_pair, lawful_stack}
use Rattle.configuration.specs.Meaning.{frames_on}
use Rattle.configuration.proofs.CheckAll.{first_passed}
use Rattle.configuration.proofs.CheckFrames.{pairs_backwards}
use Rattle.configuration.proofs.lawful_frames.Stack.lawful.Goals as goal

pub returns-then-ranged : goal.returns-then-ranged
unfolding lawful_stack
returns-then-ranged c =
    let xs = listed c.args.self.now.frames in
    let r = rests_on (told c.args.program.now) in
    let e : c.all_rest.result ≡ list_all (λ p. r p.1 p.0) (zip c.as_slice.result.now (drop 1 c.as_slice.result.now)) = c.all_rest.ensures in
    let pairs : c.all_rest.result ≡ each_pair r (frames_on c.args.self.now) = e ∙ (ap (λ (ys : List Frame). list_all (λ p. r p.1 p.0) (zip ys (drop 1 ys))) c.as_slice.ensures.items ∙ pairs_backwards r xs) in
    first_passed _ _ _ c.if-ranged.ensures pairs
