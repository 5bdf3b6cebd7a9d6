use Rattle.std.proofs.Common.{◌≡◌, ◌-◌, ◌*◌, ◌++◌, map, length, take, drop}
use Rattle.configuration.specs.Reading.{unbuffers}
use Rattle.configuration.specs.Meaning.{state_of}
use Rattle.configuration.proofs.read_buffers.read_buffers.Given as goal

abbrev pub invariant-loop-n : goal.invariant-loop-n
invariant-loop-n l =
    map state_of (take l.n l.out) ++ unbuffers (length l.initial.out - l.n) (drop (78 * l.n) l.bytes)
    ≡ unbuffers (length l.initial.out) l.bytes
