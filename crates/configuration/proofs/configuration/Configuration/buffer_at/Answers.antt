use Rattle.std.proofs.Common.{ℕ, map, get_or, ap, ◌∙◌}
use Rattle.configuration.specs.Config.{no_buffer}
use Rattle.configuration.specs.Meaning.{state_of}
use Rattle.configuration.proofs.Configs.{buffer_some}
use Rattle.configuration.proofs.configuration.Configuration.buffer_at.Goals as goal

pub returns-then-k-buffers : goal.returns-then-k-buffers
returns-then-k-buffers c =
    let x = c.args.self.now in
    let e = c.buffer_in.ensures ∙ ap (λ (i : ℕ). get_or (map state_of x.buffers) i no_buffer) c.from.ensures in
    λ t h. buffer_some t x c.args.buffers c.args.k _ h c.if-k-buffers.true e
