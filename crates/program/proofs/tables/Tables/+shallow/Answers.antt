use Rattle.std.proofs.Common.{◌∙◌}
use Rattle.program.specs.declared.node.Node.TheVariants.{Number, Read, Not}
use Rattle.program.proofs.Deeper.{shallow_none, shallow_by, shallow_first, shallow_second}
use Rattle.program.proofs.tables.Tables.+shallow.Goals as goal

pub returns-then-most-eq0 : goal.returns-then-most-eq0
returns-then-most-eq0 t c = shallow_none _ _ _ c.if-most-eq0.true

pub returns-in-Number : goal.returns-in-Number
returns-in-Number t c = shallow_by _ _ _ (Number c.in-Number.field-0) c.if-most-eq0.false c.in-Number.ensures

pub returns-in-Read : goal.returns-in-Read
returns-in-Read t c = shallow_by _ _ _ (Read c.in-Read.field-0) c.if-most-eq0.false c.in-Read.ensures

pub returns-in-Not : goal.returns-in-Not
returns-in-Not t c = c.shallow.ensures ∙ shallow_by _ _ _ (Not c.in-Not.part) c.if-most-eq0.false c.in-Not.ensures

pub returns-then-shallow : goal.returns-then-shallow
returns-then-shallow t c = shallow_second _ _ _ _ _ _ _ _ c.if-most-eq0.false c.in-Join.ensures c.shallow-in-Join.ensures c.if-shallow.true c.shallow-then-shallow.ensures

pub returns-else-shallow : goal.returns-else-shallow
returns-else-shallow t c = shallow_first _ _ _ _ _ _ _ c.if-most-eq0.false c.in-Join.ensures c.shallow-in-Join.ensures c.if-shallow.false
