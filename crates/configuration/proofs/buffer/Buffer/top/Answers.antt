use Rattle.std.proofs.Common.{◌≡◌, ◌∙◌, max, rules}
use Rattle.std.specs.List.{fold}
use Rattle.fixed.specs.Fixed.{listed}
use Rattle.configuration.specs.Meaning.{frames_of}
use Rattle.configuration.specs.Tasks.{task_level}
use Rattle.configuration.proofs.Pendings.{top_told}
use Rattle.configuration.proofs.buffer.Buffer.top.Goals as goal

pub returns : goal.returns
returns c =
    let e : c.fold.result ≡ fold (λ w u. max w (task_level (frames_of u))) 0 (listed c.args.self.now.tasks) = search rules in
    e ∙ top_told (listed c.args.self.now.tasks)
