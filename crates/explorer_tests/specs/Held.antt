-- What an asker keeps true of the ticket that it holds. Assumes nothing.
use Rattle.std.specs.Prelude.{◌≡◌, ℕ, Bool, true, ◌&&◌, is_some, Some, None, Option, IsSomeAnd, Result, MatchResult, ◌==◌}
use Rattle.explorer.specs.declared.refusal.Refusal.{Refusal}
use Rattle.explorer.specs.declared.ticket.Ticket.{Ticket}
use Rattle.explorer.specs.Rules.{State}

-- An explorer in state e has its ticket out and takes one of number n for its own.
abbrev pub takes : State → ℕ → Bool
takes e n = is_some e.progress && n == e.number

-- The ticket that is held, if any, is one that the explorer takes.
abbrev pub holds : State → Option Ticket → Bool
holds e None = true
holds e (Some t) = takes e t.number

-- What a call that takes the ticket out of a place leaves there, and of the explorer: accepted, it took the explorer's
-- own; refused, all is as it was.
abbrev pub Ends : {A : Type 0} → State → Option Ticket → Result A Refusal → State → Option Ticket → Type 0
Ends e o r f p = MatchResult r (λ _. IsSomeAnd o (λ t. t.number ≡ e.number) × (p ≡ None)) (λ _. (f ≡ e) × (p ≡ o))
