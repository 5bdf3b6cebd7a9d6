use Rattle.std.proofs.Common.{◌≡◌, ◌*◌, ◌++◌, map, take, drop}
use Rattle.configuration.specs.Layout.{all_bytes}
use Rattle.configuration.specs.Meaning.{state_of}
use Rattle.configuration.proofs.write_buffers.write_buffers.Given as goal

abbrev pub invariant-loop-n : goal.invariant-loop-n
invariant-loop-n l =
    take (78 * l.n) l.out ++ all_bytes (map state_of (drop l.n l.buffers))
    ≡ all_bytes (map state_of l.buffers)
