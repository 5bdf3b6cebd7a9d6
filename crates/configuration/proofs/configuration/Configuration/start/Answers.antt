use Rattle.std.proofs.Common.{length, sym, ap, ◌∙◌, arith}
use Rattle.program.specs.Programs.{told, sound}
use Rattle.configuration.proofs.Configs.{started}
use Rattle.configuration.proofs.configuration.Configuration.start.Goals as goal

pub start_values-requires : goal.start_values-requires
start_values-requires c =
    let s = sound c.args.program.now in
    let many = sym s.all_start ∙ ap length (sym c.start.ensures) in
    omega (arith, s.most_globals, many)

pub returns : goal.returns
returns c =
    let s = sound c.args.program.now in
    let values = sym c.start.ensures in
    let mains = sym c.mains-mains.ensures in
    started (told c.args.program.now) c.start.result.now c.mains-mains.result.now c.start_values.result c.begun.result c.begun-2.result c.begun-3.result values mains (sym s.all_start ∙ ap length values) (sym s.all_mains ∙ ap length mains) s.most_globals s.most_buffers (λ _. c.start_values.ensures) c.begun.ensures c.begun-2.ensures c.begun-3.ensures
