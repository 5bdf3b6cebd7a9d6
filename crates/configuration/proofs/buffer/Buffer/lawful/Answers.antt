use Rattle.std.proofs.Common.{◌≡◌, Bool, true, false, List, map, sym, ap, ◌∙◌}
use Rattle.std.specs.List.{list_all}
use Rattle.std.proofs.lemmas.List.Folds.{list_all-map}
use Rattle.program.specs.Programs.{told}
use Rattle.configuration.specs.declared.frame.Frame.{Frame}
use Rattle.configuration.specs.Tests.{lawful_task, ascends, lawful_buffer}
use Rattle.configuration.specs.Meaning.{Task, frames_of}
use Rattle.configuration.proofs.CheckAll.{first_passed, first_failed}
use Rattle.configuration.proofs.buffer.Buffer.lawful.Goals as goal

pub returns-then-not-lawful : goal.returns-then-not-lawful
unfolding lawful_buffer
returns-then-not-lawful c = first_failed _ _ c.if-not-lawful.ensures

tested : (p : List Frame → Bool) (us ts : List Task) (b : Bool) → b ≡ list_all (λ u. p (frames_of u)) us → us ≡ ts → b ≡ list_all p (map frames_of ts)
tested p us ts b e h = e ∙ (ap (list_all (λ u. p (frames_of u))) h ∙ sym (list_all-map p frames_of ts))

pub returns-then-lawful_tasks : goal.returns-then-lawful_tasks
unfolding lawful_buffer
returns-then-lawful_tasks c =
    let us = c.as_slice-tasks.result.now in
    let is = c.as_slice-tasks.ensures.items in
    let e : c.ascending.result ≡ ascends (map frames_of us) = c.ascending.ensures in
    first_passed _ _ _ c.if-not-lawful.ensures (first_passed _ _ _ (tested (lawful_task (told c.args.program.now)) us _ true c.if-lawful_tasks.ensures is) (e ∙ ap (λ (ts : List Task). ascends (map frames_of ts)) is))

pub returns-else-lawful_tasks : goal.returns-else-lawful_tasks
unfolding lawful_buffer
returns-else-lawful_tasks c =
    let t = told c.args.program.now in
    first_passed _ _ _ c.if-not-lawful.ensures (c.if-lawful_tasks.false ∙ first_failed _ _ (tested (lawful_task t) c.as_slice-tasks.result.now _ false c.if-lawful_tasks.ensures c.as_slice-tasks.ensures.items))
