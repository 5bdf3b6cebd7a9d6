use Rattle.std.proofs.Common.{length, map, ap, ◌∙◌, arith}
use Rattle.configuration.specs.Layout.{task_slots}
use Rattle.configuration.specs.Meaning.{frames_of}
use Rattle.configuration.proofs.WriteTasks.{tasks_none, task_put, tasks_put}
use Rattle.configuration.proofs.buffer.Buffer.write_tasks.Goals as goal

pub loop-n-init : goal.loop-n-init
loop-n-init c = c.fill.ensures.after (λ y e. e) ∙ tasks_none 6 (length c.args.out.now) (omega arith)

pub loop-n-preserved : goal.loop-n-preserved
loop-n-preserved c =
    task_put c.loop-n.n 6 _ c.as_slice-tasks.result.now c.index-tasks-n.result c.loop-n.out c.write.new.out c.loop-n-test.true c.as_slice-tasks.ensures.most (omega arith) c.index-tasks-n.is c.write.ensures c.loop-n.invariant

pub returns : goal.returns
returns c =
    tasks_put c.loop-n.n 6 c.as_slice-tasks.result.now c.loop-n.out c.loop-n-test.false c.loop-n.invariant
    ∙ ap (λ us. task_slots 6 (map frames_of us)) c.as_slice-tasks.ensures.items
