use Rattle.std.proofs.Common.{sym, ◌∙◌, arith}
use Rattle.std.proofs.lemmas.Bool.{lt-ltb, le-ltb}
use Rattle.program.specs.Programs.{told}
use Rattle.std.proofs.lemmas.List.Folds.{list_all-map}
use Rattle.configuration.specs.Tests.{lawful_buffer, lawful_config}
use Rattle.configuration.specs.Meaning.{state_of}
use Rattle.configuration.proofs.CheckAll.{first_passed, first_failed, globals_test, buffers_test}
use Rattle.configuration.proofs.configuration.Configuration.lawful.Goals as goal

pub returns-then-self-buffers : goal.returns-then-self-buffers
unfolding lawful_config
returns-then-self-buffers c =
    first_failed _ _ (sym (le-ltb c.args.self.now.active (told c.args.program.now).buffers (omega arith)))

pub returns-then-all_values : goal.returns-then-all_values
unfolding lawful_config
returns-then-all_values c =
    let t = told c.args.program.now in
    first_passed _ _ _ (sym (lt-ltb c.args.self.now.active t.buffers (omega arith))) (first_passed _ _ _ (globals_test t c.args.self.now c.values.result _ _ c.values.ensures.told (omega arith) c.if-all_values.ensures) (buffers_test t c.args.self.now _ _ (omega arith) (c.lawful_buffers.ensures ∙ sym (list_all-map (lawful_buffer t) state_of _))))

pub returns-else-all_values : goal.returns-else-all_values
unfolding lawful_config
returns-else-all_values c =
    let t = told c.args.program.now in
    first_passed _ _ _ (sym (lt-ltb c.args.self.now.active t.buffers (omega arith))) (c.if-all_values.false ∙ first_failed _ _ (globals_test t c.args.self.now c.values.result _ _ c.values.ensures.told (omega arith) c.if-all_values.ensures))
