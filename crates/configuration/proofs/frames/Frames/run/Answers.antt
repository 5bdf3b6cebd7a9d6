use Rattle.std.proofs.Common.{◌≡◌, ℕ, eqb, length, ap, ◌∙◌, arith}
use Rattle.std.specs.List.{take_while}
use Rattle.std.proofs.lemmas.List.{length-reverse, length-take}
use Rattle.fixed.specs.Fixed.{listed}
use Rattle.configuration.specs.Meaning.{frames_on}
use Rattle.configuration.specs.Tasks.{run}
use Rattle.configuration.proofs.Running.{run_counted, run_le}
use Rattle.configuration.proofs.frames.Frames.run.Goals as goal

pub returns : goal.returns
returns g c =
    let fs = frames_on c.args.self.now in
    let frames = c.args.self.now.frames in
    let xs = listed frames in
    let is : c.run_at.result ≡ run fs = c.run_at.ensures ∙ (ap (λ (v : ℕ). length (take_while (λ f. eqb f.level v) fs)) c.level.ensures ∙ run_counted fs) in
    let fits = frames.fits in
    (is, omega (arith, is, run_le fs, length-reverse xs, length-take frames.len frames.items, fits))
