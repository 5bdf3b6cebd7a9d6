use Rattle.std.proofs.Common.{length, refl, sym, ap, ◌∙◌, arith}
use Rattle.fixed.specs.Fixed.{listed}
use Rattle.std.proofs.lemmas.List.{reverse-reverse}
use Rattle.configuration.specs.Config.{no_frame}
use Rattle.configuration.specs.Layout.{slots}
use Rattle.configuration.proofs.WriteFrames.{slots_none, slot_put, slots_all}
use Rattle.configuration.proofs.frames.Frames.write.Goals as goal

pub loop-n-init : goal.loop-n-init
loop-n-init g c = c.fill.ensures.after (λ y e. e) ∙ slots_none g.row.N (length c.args.out.now) (omega arith)

pub loop-n-preserved : goal.loop-n-preserved
loop-n-preserved g c =
    slot_put c.loop-n.n g.row.N _ c.as_slice-frames.result.now _ no_frame c.loop-n.out c.copy_from_slice.new.self c.loop-n-test.true c.as_slice-frames.ensures.most (omega arith) refl (c.copy_from_slice.ensures.after ∙ c.slot.ensures) c.loop-n.invariant

pub returns : goal.returns
returns g c =
    slots_all c.loop-n.n g.row.N c.as_slice-frames.result.now c.loop-n.out c.loop-n-test.false c.loop-n.invariant
    ∙ ap (slots g.row.N) (c.as_slice-frames.ensures.items ∙ sym (reverse-reverse (listed c.args.self.now.frames)))
