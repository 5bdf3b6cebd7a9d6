use Rattle.std.proofs.Common.{◌≡◌, ◌-◌, ◌*◌, ◌++◌, length}
use Rattle.std.specs.Slice.Iter.{chunks_exact_rest, chunks_exact_size}
use Rattle.fixed.specs.Fixed.{listed}
use Rattle.configuration.specs.Reading.{unslots}
use Rattle.configuration.proofs.frames.Frames.read.Given as goal

abbrev pub invariant-loop-slot : goal.invariant-loop-slot
invariant-loop-slot g l =
    (chunks_exact_size l.slot-iterator ≡ 3)
    × (3 * (g.row.N - length (listed l.frames)) ≡ length (chunks_exact_rest l.slot-iterator))
    × (listed l.frames ++ unslots (g.row.N - length (listed l.frames)) (chunks_exact_rest l.slot-iterator) ≡ unslots g.row.N l.bytes)
