use Rattle.program.proofs.tables.Tables.+shallow.Given as goal

abbrev pub decreases-shallow : goal.decreases-shallow
decreases-shallow l = l.most
