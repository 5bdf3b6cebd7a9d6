-- One more entry in tables that are being filled. Assumes nothing.
use Rattle.std.proofs.Common.{◌≡◌, ℕ, ◌+◌, ◌<◌, Bool, true, false, cond, List, [], ◌∷◌, ◌++◌, length, get_or, take, is_some, is_ok, Some, None, Ok, Result, sym, refl, ap, ◌∙◌}
use Rattle.std.specs.Result.{result_ok}
use Rattle.std.proofs.lemmas.List.{take_more}
use Rattle.program.specs.Table.{Table}
use Rattle.program.specs.Edits.{has_room, and_one, next_number}

-- An entry got a number exactly where there was room.
some_room : (b : Bool) (n : ℕ) → is_some {T = ℕ} (cond b (Some n) None) ≡ b
some_room true n = refl
some_room false n = refl

pub room : {X E : Type 0} (xs : List X) (most n : ℕ) (r : Result ℕ E) → result_ok r ≡ next_number xs most → r ≡ Ok n → has_room xs most ≡ true
room xs most n r p q = sym (some_room (has_room xs most) (length xs)) ∙ sym (ap is_some p) ∙ ap (λ v. is_some (result_ok v)) q

pub has : {E : Type 0} (b : Bool) (r : Result (Unit {0}) E) → is_ok r ≡ b → r ≡ Ok tt → b ≡ true
has b r p q = sym p ∙ ap is_ok q

-- t has none of the entries xs, u the first i of them, and v one more; `with` puts entries into a table, `mine` gives them.
module _ {X : Type 0} (with : Table → List X → Table) (mine : Table → List X) (most : ℕ) (t u v : Table) (xs : List X) (i : ℕ) where
  pub more : i < length xs → ((l : List X) → mine (with t l) ≡ l) → ((l m : List X) → with (with t l) m ≡ with t m) → u ≡ with t (take i xs) → has_room (mine u) most ≡ true → (x d : X) → x ≡ get_or xs i d → v ≡ with u (and_one (mine u) most x) → v ≡ with t (take (i + 1) xs)
  more inside given again first free x d e after =
      let held : mine u ≡ take i xs = ap mine first ∙ given (take i xs) in
      let one : and_one (mine u) most x ≡ take (i + 1) xs = ap {B = List X} (λ (b : Bool). cond b (mine u ++ x ∷ []) (mine u)) free ∙ ap {B = List X} (λ (l : List X). l ++ x ∷ []) held ∙ ap {B = List X} (λ (y : X). take i xs ++ y ∷ []) e ∙ sym (take_more xs i d inside) in
      after ∙ ap (λ (w : Table). with w (and_one (mine u) most x)) first ∙ again (take i xs) (and_one (mine u) most x) ∙ ap (with t) one
