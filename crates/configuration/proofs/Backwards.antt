-- A list that is told from its end: what is first there, and what changes at the end.
use Rattle.std.proofs.Common.{◌≡◌, ℕ, ◌+◌, ◌-◌, ◌<◌, ◌≤◌, Bool, cond, ltb, List, [], ◌∷◌, ◌++◌, reverse, length, take, drop, set, Some, sym, refl, ap, ◌∙◌, subst, arith}
use Rattle.std.specs.List.{slice_get}
use Rattle.std.proofs.lemmas.List.{reverse-reverse, reverse-append, length-append, length-reverse, length-drop, take_at, drop_at, take-append-drop}
use Rattle.std.proofs.lemmas.Grind.{reverse_onto}
use Rattle.std.proofs.lemmas.Bool.{lt-ltb}
use Rattle.configuration.specs.declared.frame.Frame.{Frame}
use Rattle.configuration.specs.Ops.{first, replaced}

-- A list is empty, or has a last element.
by_end : {X : Type 0} (P : List X → Type 0) → P [] → ((xs : List X) (x : X) → P (xs ++ x ∷ [])) → (xs : List X) → P xs
by_end {X} P none some xs = subst P (reverse-reverse xs) (turned (reverse xs))
  where
    turned : (ys : List X) → P (reverse ys)
    turned [] = none
    turned (y ∷ ys) = subst P (sym (reverse_onto ys y [])) (some (reverse ys) y)

one_less : {X : Type 0} (xs : List X) (x : X) → length (xs ++ x ∷ []) - 1 ≡ length xs
one_less xs x = omega (arith, length-append xs (x ∷ []))

end_of : {X : Type 0} (xs : List X) (x : X) → slice_get (xs ++ x ∷ []) (length xs) ≡ Some x
end_of [] x = refl
end_of (y ∷ ys) x = end_of ys x

set_end : {X : Type 0} (xs : List X) (x y : X) → set (xs ++ x ∷ []) (length xs) y ≡ xs ++ y ∷ []
set_end [] x y = refl
set_end (z ∷ zs) x y = ap (λ ys. z ∷ ys) (set_end zs x y)

-- The last element is the first one backwards, and calls on it are calls on that one.
pub first_last : (xs : List Frame) → slice_get xs (length xs - 1) ≡ first (reverse xs)
first_last = by_end (λ xs. slice_get xs (length xs - 1) ≡ first (reverse xs)) refl (λ xs x. rw (one_less xs x, reverse-append xs (x ∷ [])) (end_of xs x))

pub popped : {X : Type 0} (xs : List X) → reverse (take (length xs - 1) xs) ≡ drop 1 (reverse xs)
popped = by_end (λ xs. reverse (take (length xs - 1) xs) ≡ drop 1 (reverse xs)) refl (λ xs x. rw (one_less xs x, take_at xs (x ∷ []) (length xs) refl, reverse-append xs (x ∷ [])) refl)

pub replaced_last : (f : Frame) (xs : List Frame) → reverse (set xs (length xs - 1) f) ≡ replaced f (reverse xs)
replaced_last f = by_end (λ xs. reverse (set xs (length xs - 1) f) ≡ replaced f (reverse xs)) refl (λ xs x. rw (one_less xs x, set_end xs x f, reverse-append xs (x ∷ []), reverse-append xs (f ∷ [])) refl)

pub second : (fs : List Frame) → slice_get fs 1 ≡ first (drop 1 fs)
second [] = refl
second (f ∷ []) = refl
second (f ∷ g ∷ fs) = refl

-- The last k elements, and those before them.
split_end : {X : Type 0} (k : ℕ) (xs : List X) → k ≤ length xs → reverse xs ≡ reverse (drop (length xs - k) xs) ++ reverse (take (length xs - k) xs)
split_end k xs h =
    let m = length xs - k in
    ap reverse (sym (take-append-drop m xs)) ∙ reverse-append (take m xs) (drop m xs)

last_long : {X : Type 0} (k : ℕ) (xs : List X) → k ≤ length xs → length (reverse (drop (length xs - k) xs)) ≡ k
last_long k xs h =
    omega (arith, h, length-reverse (drop (length xs - k) xs), length-drop (length xs - k) xs)

pub take_last : {X : Type 0} (k : ℕ) (xs : List X) → k ≤ length xs → take k (reverse xs) ≡ reverse (drop (length xs - k) xs)
take_last k xs h =
    let m = length xs - k in
    ap (take k) (split_end k xs h) ∙ take_at (reverse (drop m xs)) (reverse (take m xs)) k (last_long k xs h)

pub drop_last : {X : Type 0} (k : ℕ) (xs : List X) → k ≤ length xs → drop k (reverse xs) ≡ reverse (take (length xs - k) xs)
drop_last k xs h =
    let m = length xs - k in
    ap (drop k) (split_end k xs h) ∙ drop_at (reverse (drop m xs)) (reverse (take m xs)) k (last_long k xs h)

-- What a push leaves where there is room.
pub put_behind : {X : Type 0} (m : ℕ) (xs ys : List X) (x : X) (b : Bool) → b ≡ ltb (length xs) m → length xs < m → ys ≡ cond b (xs ++ x ∷ []) xs → ys ≡ xs ++ x ∷ []
put_behind m xs ys x b e lt f = f ∙ ap (λ d. cond d (xs ++ x ∷ []) xs) (e ∙ lt-ltb (length xs) m lt)

pub one_longer : {X : Type 0} (xs ys : List X) (x : X) → ys ≡ xs ++ x ∷ [] → length ys ≡ length xs + 1
one_longer xs ys x e = ap length e ∙ length-append xs (x ∷ [])
