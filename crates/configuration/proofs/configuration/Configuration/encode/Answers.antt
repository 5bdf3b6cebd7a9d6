use Rattle.std.proofs.Common.{refl, arith, rules}
use Rattle.std.proofs.lemmas.Slice.{overwrites}
use Rattle.program.specs.Programs.{told}
use Rattle.configuration.specs.Layout.{width}
use Rattle.configuration.proofs.WriteConfig.{line_put}
use Rattle.configuration.proofs.configuration.Configuration.encode.Goals as goal

pub returns : goal.returns
unfolding width
returns c =
    line_put (told c.args.program.now) c.args.self.now c.from-globals.result _ _ _ _ c.args.out.now c.copy_from_slice.new.self c.write_buffers.new.out (omega arith) (omega arith) (search (rules, overwrites)) (omega arith) refl c.copy_from_slice.ensures.after c.write_buffers.ensures
