use Rattle.std.proofs.Common.{reverse, drop, ap, ◌∙◌, arith}
use Rattle.std.proofs.lemmas.List.{length-take, length-drop}
use Rattle.configuration.specs.Reading.{buffer_from}
use Rattle.configuration.proofs.ReadTasks.{unslots_taken, untasks_taken}
use Rattle.configuration.proofs.buffer.Buffer.read.Goals as goal

pub returns : goal.returns
unfolding buffer_from
returns c =
    let bs = c.args.bytes.now in
    let s = c.read.ensures ∙ ap reverse (unslots_taken 8 24 bs (omega (arith, length-take 24 bs, c.requires))) in
    let p = c.read_tasks.ensures ∙ untasks_taken 6 54 (drop 24 bs) (omega (arith, length-take 54 (drop 24 bs), length-drop 24 bs, c.requires)) in
    cc
