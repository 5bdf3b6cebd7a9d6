use Rattle.std.proofs.Common.{◌*◌, length, ap, ◌∙◌, arith}
use Rattle.std.proofs.lemmas.List.{take_rest}
use Rattle.configuration.specs.Reading.{buffer_from}
use Rattle.configuration.proofs.ReadBuffers.{buffer_more, buffers_all}
use Rattle.configuration.proofs.read_buffers.read_buffers.Goals as goal

pub loop-n-preserved : goal.loop-n-preserved
loop-n-preserved c =
    let e = c.read.ensures ∙ ap buffer_from (take_rest c.args.bytes.now (78 * c.loop-n.n)) in
    buffer_more c.loop-n.n (length c.args.out.now) c.loop-n.out c.read.result c.args.bytes.now _ (omega arith) (omega arith) e c.loop-n.invariant

pub returns : goal.returns
returns c =
    buffers_all c.loop-n.n (length c.args.out.now) c.loop-n.out c.args.bytes.now _ (omega arith) (omega arith) c.loop-n.invariant
