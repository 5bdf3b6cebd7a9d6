use Rattle.std.proofs.Common.{◌∙◌}
use Rattle.program.specs.declared.node.Node.TheVariants.{Number, Read}
use Rattle.program.proofs.Deeper.{worth_none, worth_by, worth_not, worth_join}
use Rattle.program.proofs.program.Program.+worth.Goals as goal

pub returns-then-depth-eq0 : goal.returns-then-depth-eq0
returns-then-depth-eq0 t c = worth_none _ _ _ _ _ c.if-depth-eq0.true

pub returns-in-Number : goal.returns-in-Number
returns-in-Number t c = worth_by _ _ _ _ _ (Number c.in-Number.v) c.if-depth-eq0.false c.in-Number.ensures

pub returns-in-Read : goal.returns-in-Read
returns-in-Read t c = c.held.ensures ∙ worth_by _ _ _ _ _ (Read c.in-Read.variable) c.if-depth-eq0.false c.in-Read.ensures

pub returns-in-Not : goal.returns-in-Not
returns-in-Not t c = worth_not _ _ _ _ _ _ _ _ c.if-depth-eq0.false c.in-Not.ensures c.worth.ensures c.from.ensures

pub returns-in-Join : goal.returns-in-Join
returns-in-Join t c = worth_join _ _ _ _ _ _ _ _ _ _ _ c.if-depth-eq0.false c.in-Join.ensures c.worth-a.ensures c.worth-b.ensures c.join.ensures
