-- A text that begins with given bytes. Assumes nothing.
use Rattle.std.proofs.Common.{◌≡◌, ℕ, ◌≤◌, true, nat_eq, List, ◌++◌, length, drop, refl, ap, arith, length-append}
use Rattle.std.specs.List.{starts_with}
use Rattle.std.proofs.lemmas.Bool.Decides.{Decides-eqb}
use Rattle.std.proofs.lemmas.Slice.Eq.{starts_is}

pub starts_joined : (f t : List ℕ) → starts_with nat_eq (f ++ t) f ≡ true
starts_joined f t = (starts_is Decides-eqb (f ++ t) f (starts_with nat_eq (f ++ t) f) refl).1 t refl

pub starts_split : (f t : List ℕ) → starts_with nat_eq t f ≡ true → t ≡ f ++ drop (length f) t
starts_split f t = (starts_is Decides-eqb t f (starts_with nat_eq t f) refl).0

pub starts_within : (f t : List ℕ) → starts_with nat_eq t f ≡ true → length f ≤ length t
starts_within f t e = omega (arith, ap length (starts_split f t e), length-append f (drop (length f) t))
