use Rattle.std.proofs.Common.{◌≡◌, drop, find}
use Rattle.std.specs.Str.{bytes_eq}
use Rattle.program.specs.Kinds.{named, kinds}
use Rattle.program.proofs.kind.Kind.of_name.Given as goal

abbrev pub invariant-loop-kind : goal.invariant-loop-kind
invariant-loop-kind l = find (λ k. bytes_eq l.word (named k)) (drop l.kind-index kinds) ≡ find (λ k. bytes_eq l.word (named k)) kinds
