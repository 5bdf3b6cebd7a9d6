use Rattle.program.proofs.program.Program.+worth.Given as goal

abbrev pub decreases-worth : goal.decreases-worth
decreases-worth l = l.depth
