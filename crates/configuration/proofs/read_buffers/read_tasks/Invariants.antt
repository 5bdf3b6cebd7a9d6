use Rattle.std.proofs.Common.{◌≡◌, ◌-◌, ◌*◌, ◌++◌, map, length}
use Rattle.std.specs.Slice.Iter.{chunks_exact_rest, chunks_exact_size}
use Rattle.fixed.specs.Fixed.{listed}
use Rattle.configuration.specs.Reading.{untasks}
use Rattle.configuration.specs.Meaning.{frames_of}
use Rattle.configuration.proofs.read_buffers.read_tasks.Given as goal

abbrev pub invariant-loop-nine : goal.invariant-loop-nine
invariant-loop-nine l =
    (chunks_exact_size l.nine-iterator ≡ 9)
    × (9 * (6 - length (listed l.tasks)) ≡ length (chunks_exact_rest l.nine-iterator))
    × (map frames_of (listed l.tasks) ++ untasks (6 - length (listed l.tasks)) (chunks_exact_rest l.nine-iterator) ≡ untasks 6 l.bytes)
