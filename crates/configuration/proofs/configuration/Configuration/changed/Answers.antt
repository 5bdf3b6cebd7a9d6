use Rattle.configuration.proofs.Configs.{changed_is}
use Rattle.configuration.proofs.configuration.Configuration.changed.Goals as goal

pub returns : goal.returns
returns c = λ t. changed_is t c.args.self.now c.args.active c.args.globals c.put.new.self.buffers c.args.buffer c.put.ensures
