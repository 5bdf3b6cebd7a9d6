use Rattle.std.proofs.Common.{map, ◌∙◌}
use Rattle.configuration.specs.Meaning.{frames_of}
use Rattle.configuration.proofs.CheckAscending.{rises_none, rises_more, rises_stop, rises_all}
use Rattle.configuration.proofs.ascending.ascending.Goals as goal

pub loop-task-init : goal.loop-task-init
loop-task-init c = rises_none (map frames_of c.args.tasks.now)

pub returns-then-key-last : goal.returns-then-key-last
returns-then-key-last c =
    rises_stop c.loop-task.last c.key-key.result c.loop-task.task-index c.args.tasks.now c.task-item.result c.loop-task-test.true c.task-item.is c.key-key.ensures c.if-key-last.true
    ∙ c.loop-task.invariant

pub loop-task-preserved : goal.loop-task-preserved
loop-task-preserved c =
    rises_more c.loop-task.last c.key-key.result c.loop-task.task-index c.args.tasks.now c.task-item.result c.loop-task-test.true c.task-item.is c.key-key.ensures c.if-key-last.false
    ∙ c.loop-task.invariant

pub returns : goal.returns
returns c =
    rises_all c.loop-task.last c.loop-task.task-index c.args.tasks.now c.loop-task-test.false
    ∙ c.loop-task.invariant
