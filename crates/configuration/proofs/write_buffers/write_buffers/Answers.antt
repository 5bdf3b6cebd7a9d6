use Rattle.std.proofs.Common.{◌≡◌, length, arith, rules}
use Rattle.std.proofs.lemmas.Slice.{overwrites}
use Rattle.configuration.proofs.WriteBuffers.{buffer_next, buffers_put}
use Rattle.configuration.proofs.write_buffers.write_buffers.Goals as goal

pub loop-n-preserved : goal.loop-n-preserved
loop-n-preserved c =
    let e : length c.write.new.out ≡ 78 = search (rules, overwrites) in
    buffer_next c.loop-n.n _ c.args.buffers.now c.index-buffers-n.result c.loop-n.out c.write.new.out _ c.loop-n-test.true (omega arith) (omega arith) e c.index-buffers-n.is c.write.ensures c.loop-n.invariant

pub returns : goal.returns
returns c =
    buffers_put c.loop-n.n c.args.buffers.now c.loop-n.out _ (omega arith) (omega arith) c.loop-n.invariant
