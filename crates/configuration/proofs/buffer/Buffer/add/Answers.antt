use Rattle.std.proofs.Common.{is_ok}
use Rattle.fixed.specs.Fixed.{listed}
use Rattle.configuration.proofs.Pendings.{tasks_put_in}
use Rattle.configuration.proofs.buffer.Buffer.add.Goals as goal

pub returns-clause-after : goal.returns-clause-after
returns-clause-after c =
    tasks_put_in (is_ok c.insert.result) (listed c.args.self.now.tasks) (listed c.insert.new.self) c.rank-at.result c.key.result c.args.u c.key.ensures c.rank-at.ensures c.insert.ensures.after
