use Rattle.std.proofs.Common.{◌∙◌, arith, rules}
use Rattle.std.proofs.lemmas.Slice.{overwrites}
use Rattle.program.specs.Programs.{told}
use Rattle.configuration.proofs.ReadConfig.{told_whole}
use Rattle.configuration.proofs.configuration.Configuration.fill.Goals as goal

pub returns : goal.returns
returns c =
    told_whole (told c.args.program.now) c.from-globals.result _ _ c.args.line.now c.copy_from_slice.new.self _ c.read_buffers.new.out _ (c.from-globals.ensures ∙ c.globals.ensures.told) (omega arith) (search (rules, overwrites)) (search (rules, overwrites)) (search (rules, overwrites)) c.copy_from_slice.ensures.after c.read_buffers.ensures
