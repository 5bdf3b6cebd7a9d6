use Rattle.std.proofs.Common.{sym, ap, ◌∙◌}
use Rattle.program.specs.Programs.{told}
use Rattle.configuration.specs.Config.{BufferState, buffer_at}
use Rattle.configuration.specs.Meaning.{config_of}
use Rattle.steps.proofs.active.active_buffer.Goals as goal

pub returns : goal.returns
returns c =
    let t = told c.args.program.now in
    c.buffer_at.ensures t (sym c.buffers.ensures.told) ∙ ap {B = BufferState} (buffer_at (config_of t c.args.configuration.now)) c.active.ensures
