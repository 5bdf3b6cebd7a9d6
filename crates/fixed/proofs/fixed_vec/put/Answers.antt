use Rattle.fixed.proofs.Places.{put_at}
use Rattle.fixed.proofs.fixed_vec.put.Goals as goal

pub returns : goal.returns
returns g c = put_at c.args.items.now c.copy_within.new.self c.args.count c.args.place c.min-place.result c.args.item c.min-place.ensures c.requires c.copy_within.ensures.after
