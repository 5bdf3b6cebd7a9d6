use Rattle.fixed.proofs.Places.{cut_at}
use Rattle.fixed.proofs.fixed_vec.cut.Goals as goal

pub returns : goal.returns
returns g c = cut_at c.args.items.now c.copy_within.new.self c.args.count c.args.place c.requires.0 c.requires.1 c.copy_within.ensures.after
