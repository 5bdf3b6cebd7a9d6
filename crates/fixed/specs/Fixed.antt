-- What a list of fixed room holds. Assumes nothing.
use Rattle.std.specs.Prelude.{ℕ, List, take}
use Rattle.fixed.specs.declared.fixed_vec.FixedVec.{FixedVec}

-- The items in use, the first one first.
abbrev pub listed : {T : Type 0} {N : ℕ} → FixedVec T N → List T
listed v = take v.len v.items
