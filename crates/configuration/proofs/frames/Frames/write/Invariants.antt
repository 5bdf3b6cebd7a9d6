use Rattle.std.proofs.Common.{◌≡◌, take}
use Rattle.configuration.specs.Layout.{slots}
use Rattle.configuration.proofs.frames.Frames.write.Given as goal

abbrev pub invariant-loop-n : goal.invariant-loop-n
invariant-loop-n g l = l.out ≡ slots g.row.N (take l.n l.frames)
