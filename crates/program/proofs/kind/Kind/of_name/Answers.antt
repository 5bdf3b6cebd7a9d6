use Rattle.program.specs.KindLaws.{worded}
use Rattle.program.proofs.Words.{hit, miss, over}
use Rattle.program.proofs.kind.Kind.of_name.Goals as goal

pub returns-then-eq : goal.returns-then-eq
returns-then-eq c = record { law = worded c.args.word.now; told = hit _ c.loop-kind.kind-index _ c.loop-kind.invariant _ _ _ c.loop-kind-test.true c.name.ensures c.as_bytes.ensures.value c.eq.ensures c.if-eq.true }

pub loop-kind-preserved : goal.loop-kind-preserved
loop-kind-preserved c = miss _ c.loop-kind.kind-index _ c.loop-kind.invariant _ _ _ c.loop-kind-test.true c.name.ensures c.as_bytes.ensures.value c.eq.ensures c.if-eq.false

pub returns : goal.returns
returns c = record { law = worded c.args.word.now; told = over _ c.loop-kind.kind-index c.loop-kind-test.false c.loop-kind.invariant }
