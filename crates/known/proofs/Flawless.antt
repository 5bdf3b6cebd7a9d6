-- The known tables have no flaw, so that only memory can be wanting. Assumes nothing.
use Rattle.std.proofs.Common.{◌≡◌, ℕ, ◌<◌, Bool, true, false, cond, ltb, Some, None, Ok, Err, Option, Result, sym, refl, ◌∙◌, arith, ltb-false, ltb-true, MatchResult}
use Rattle.program.specs.declared.flaw.Flaw.{Flaw}
use Rattle.program.specs.declared.flaw.Flaw.TheVariants.{GoalValue}
use Rattle.program.specs.declared.program.Program.{Program}
use Rattle.program.specs.Table.{Table, statement_at, entry, node_at}
use Rattle.program.specs.Limits.{shallow}
use Rattle.program.specs.Flaws.{first_bad, flaw}
use Rattle.program.specs.Programs.{told}
use Rattle.known.specs.declared.error.KnownError.{KnownError}
use Rattle.known.specs.declared.error.KnownError.TheVariants.{Memory, Room, Flawed}
use Rattle.known.specs.Known.{bumps_table, BumpsFault, puts_table, two_mains_table, recursive_table, sampler_table}
use Rattle.known.specs.Parts.{fits, Holds, Fault}

only_memory : (t : Table) (e : KnownError) → fits t ≡ true → flaw t ≡ None → Fault t e → e ≡ Memory
only_memory t Memory f n h = refl
only_memory t Room f n h = let z : ◌≡◌ {A = Bool} true false = sym f ∙ h in cc
only_memory t (Flawed g) f n h = let z : ◌≡◌ {A = Option Flaw} None (Some g) = sym n ∙ h in cc

-- A table that fits and has no flaw is made a program, unless there is no memory.
pub exactly : (t : Table) (r : Result Program KnownError) → fits t ≡ true → flaw t ≡ None → MatchResult r (Holds t) (Fault t) → MatchResult r (λ p. told p ≡ t) (λ e. e ≡ Memory)
exactly t (Ok p) f n h = h.0
exactly t (Err e) f n h = only_memory t e f n h

pub puts_flaw : flaw puts_table ≡ None
unfolding flaw first_bad shallow statement_at node_at entry
puts_flaw = refl

pub two_mains_flaw : flaw two_mains_table ≡ None
unfolding flaw first_bad shallow statement_at node_at entry
two_mains_flaw = refl

pub recursive_flaw : flaw recursive_table ≡ None
unfolding flaw first_bad shallow statement_at node_at entry
recursive_flaw = refl

pub sampler_flaw : flaw sampler_table ≡ None
unfolding flaw first_bad shallow statement_at node_at entry
sampler_flaw = refl

-- Of the bumps only the goal can be wrong.
bumps_flaw : (n : ℕ) → flaw (bumps_table n) ≡ cond (ltb n 4) None (Some (GoalValue 0))
unfolding flaw first_bad shallow statement_at node_at entry
bumps_flaw n = refl

passes : (b : Bool) (g : Flaw) → ◌≡◌ {A = Option Flaw} (cond b None (Some g)) None → b ≡ true
passes true g e = refl
passes false g e = cc

fails : (b : Bool) (f g : Flaw) → ◌≡◌ {A = Option Flaw} (cond b None (Some g)) (Some f) → b ≡ false
fails true f g e = cc
fails false f g e = refl

named : (b : Bool) (f g : Flaw) → ◌≡◌ {A = Option Flaw} (cond b None (Some g)) (Some f) → f ≡ g
named true f g e = cc
named false f g e = cc

bumps_fault : (n : ℕ) (e : KnownError) → Fault (bumps_table n) e → BumpsFault n e
bumps_fault n Memory h = tt
bumps_fault n Room h = let y : ◌≡◌ {A = Bool} true false = h in let z : ◌≡◌ {A = ℕ} 0 1 = cc in omega arith
bumps_fault n (Flawed f) h = let e = sym (bumps_flaw n) ∙ h in (ltb-false n 4 (fails (ltb n 4) f (GoalValue 0) e), named (ltb n 4) f (GoalValue 0) e)

pub bumps_exactly : (n : ℕ) (r : Result Program KnownError) → MatchResult r (Holds (bumps_table n)) (Fault (bumps_table n)) → MatchResult r (λ p. (told p ≡ bumps_table n) × (n < 4)) (BumpsFault n)
bumps_exactly n (Ok p) h = (h.0, ltb-true n 4 (passes (ltb n 4) (GoalValue 0) (sym (bumps_flaw n) ∙ h.1)))
bumps_exactly n (Err e) h = bumps_fault n e h
