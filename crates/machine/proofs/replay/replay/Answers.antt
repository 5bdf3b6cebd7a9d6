use Rattle.std.proofs.Common.{length, rules}
use Rattle.machine.proofs.Replaying.{replay_law}
use Rattle.machine.proofs.replay.replay.Goals as goal

pub returns-in_err-map_err-2-clause-law : goal.returns-in_err-map_err-2-clause-law
returns-in_err-map_err-2-clause-law g c =
    replay_law (g.M.Machine.meaning c.args.machine.now) c.args.numbers.now c.args.line.now (length c.args.spare.now) c.from_residual-in_err-map_err-2.result c.follow.new.line (search rules) (search rules)

pub returns-clause-law : goal.returns-clause-law
returns-clause-law g c =
    replay_law (g.M.Machine.meaning c.args.machine.now) c.args.numbers.now c.args.line.now (length c.args.spare.now) c.map_err-3.result c.follow.new.line (search rules) (search rules)
