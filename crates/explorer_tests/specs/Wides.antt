-- A machine that is too wide. Assumes nothing.
use Rattle.std.specs.Prelude.{false, []}
use Rattle.std.proofs.Common.{arith}
use Rattle.machine.specs.System.{System, Lawful}

-- Its width says so, and nothing else of it is ever told.
abbrev pub wide : System
wide = record { width = 257; start = []; steps = λ _. []; goal = λ _. false; tight = λ _. false }

pub wide_lawful : Lawful wide
wide_lawful = record {
  least = omega arith;
  most = omega arith;
  starts = λ h. absurd (omega arith);
  few = λ h _ _. absurd (omega arith);
  steps = λ h _ _ _ _. absurd (omega arith);
}
