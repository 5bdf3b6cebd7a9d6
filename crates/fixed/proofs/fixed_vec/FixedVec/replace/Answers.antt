use Rattle.std.proofs.Math.Seq.{take-set-lt}
use Rattle.std.proofs.Common.{arith}
use Rattle.fixed.proofs.fixed_vec.FixedVec.replace.Goals as goal

pub returns-clause-after : goal.returns-clause-after
returns-clause-after g c = take-set-lt c.args.self.now.len c.args.self.now.items c.args.place c.args.item (omega (arith, c.if-place-self.false))
