-- What the limits say of what is read from a program's tables. Assumes nothing.
use Rattle.std.specs.Prelude.{◌≡◌, ℕ, ◌<◌, true, length, slice_index, refl}
use Rattle.std.proofs.Common.{⊎_elim, arith}
use Rattle.std.proofs.lemmas.List.{get_or_past}
use Rattle.std.proofs.lemmas.Bool.{cases_lt}
use Rattle.program.specs.declared.expression.Expression.TheVariants.{Any}
use Rattle.program.specs.declared.statement.Statement.TheVariants.{Return}
use Rattle.program.specs.Table.{Table, statement_at, entry}
use Rattle.program.specs.Limits.{Sound, linked}

-- Every statement is linked, what stands past the last place too.
pub statement_linked : (t : Table) → Sound t → (k : ℕ) → linked t (statement_at t k) ≡ true
unfolding statement_at
statement_linked t s k =
    ⊎_elim (λ h. s.links k (Return Any) h) (λ h. rw (get_or_past t.places k (Return Any) h) refl)
    (cases_lt k (length t.places))

-- The first place of a procedure and of a main is there.
pub entry_there : (t : Table) → Sound t → (p : ℕ) → p < length t.procedures → entry t p < length t.places
unfolding entry
entry_there t s p h = s.procedures p 0 h

pub main_there : (t : Table) → Sound t → (b : ℕ) → b < t.buffers → slice_index t.mains b < length t.places
main_there t s b h = s.mains b 0 (omega (arith, s.all_mains))

-- The start values are values, and so is the 0 past the last.
pub start_small : (t : Table) → Sound t → (i : ℕ) → slice_index t.start i < t.values
start_small t s i =
    ⊎_elim (λ h. s.start i 0 h) (λ h. rw (get_or_past t.start i 0 h) (omega (arith, s.least_values)))
    (cases_lt i (length t.start))
