-- A list whose first elements count: one put among them, one left out.
use Rattle.std.proofs.Common.{◌≡◌, ℕ, suc, ◌+◌, ◌-◌, ◌<◌, ◌≤◌, List, ◌∷◌, ◌++◌, length, take, drop, set, min, Bool, true, false, leb, sym, refl, ap, ◌∙◌, arith}
use Rattle.std.specs.List.{copy_within, insert, remove}
use Rattle.std.proofs.Math.Seq.{take-add}
use Rattle.std.proofs.lemmas.List.{length-drop, length-take, length-take-le, take-set-le, drop-set, drop_at, drop-take, take-append-le, take-take, take_all, drop_all}
use Rattle.std.proofs.lemmas.List.Edits.{length-paste, take-paste}
use Rattle.std.proofs.lemmas.Bool.{leb-true, leb-false}
use Rattle.std.proofs.Math.Nat.{min-eq_left, min-eq_right, min-le_right}

-- The part from a place on, told within the first elements.
part : {X : Type 0} (xs : List X) (n k : ℕ) → k ≤ n → take (n - k) (drop k xs) ≡ drop k (take n xs)
part xs n k le =
    let s : k + (n - k) ≡ n = omega arith in
    sym (drop-take k (n - k) xs) ∙ ap (λ m. drop k (take m xs)) s

-- Once the elements from a place on stand one further, those before the place are as they were.
moved : {X : Type 0} (xs : List X) (n a : ℕ) → a ≤ n → n < length xs → take (n + 1) (copy_within xs a n (a + 1)) ≡ take (a + 1) xs ++ take (n - a) (drop a xs)
moved xs n a le h =
    let s : a + 1 + (n - a) ≡ n + 1 = omega arith in
    let d = length-drop a xs in
    let t = take-paste xs (a + 1) (drop a xs) (n - a) (omega arith) (omega (arith, d)) in
    sym (ap (λ m. take m (copy_within xs a n (a + 1))) s) ∙ t

put_within : {X : Type 0} (xs : List X) (n a : ℕ) (x : X) → a ≤ n → n < length xs → take (n + 1) (set (copy_within xs a n (a + 1)) a x) ≡ insert (take n xs) a x
put_within {X} xs n a x le h =
    let ys : List X = copy_within xs a n (a + 1) in
    let d = length-drop a xs in
    let long : length ys ≡ length xs = length-paste xs (a + 1) (drop a xs) (n - a) (omega arith) (omega (arith, d)) in
    let m = moved xs n a le h in
    let front : length (take (a + 1) xs) ≡ a + 1 = length-take-le (a + 1) xs (omega arith) in
    let before : take a ys ≡ take a xs = sym (take-take a (n + 1) ys (omega arith)) ∙ (ap (take a) m ∙ (take-append-le a (take (a + 1) xs) (take (n - a) (drop a xs)) (omega (arith, front)) ∙ take-take a (a + 1) xs (omega arith))) in
    let w : n + 1 - (a + 1) ≡ n - a = omega arith in
    let behind : take (n - a) (drop (a + 1) ys) ≡ drop a (take n xs) = sym (ap (λ k. take k (drop (a + 1) ys)) w) ∙ (part ys (n + 1) (a + 1) (omega arith) ∙ (ap (drop (a + 1)) m ∙ (drop_at (take (a + 1) xs) (take (n - a) (drop a xs)) (a + 1) front ∙ part xs n a le))) in
    let s : a + suc (n - a) ≡ n + 1 = omega arith in
    let split = take-add a (suc (n - a)) (set ys a x) in
    let first : take a (set ys a x) ≡ take a (take n xs) = take-set-le a ys a x (omega arith) ∙ (before ∙ sym (take-take a n xs le)) in
    let last : take (suc (n - a)) (drop a (set ys a x)) ≡ x ∷ drop a (take n xs) = ap (take (suc (n - a))) (drop-set ys a x (omega (arith, long))) ∙ ap (λ zs. x ∷ zs) behind in
    sym (ap (λ k. take k (set ys a x)) s) ∙ (split ∙ (rw (first, last) refl))

-- A place past the end is the end.
insert_past : {X : Type 0} (xs : List X) (n a : ℕ) (x : X) → length xs ≤ n → insert xs (min a n) x ≡ insert xs a x
insert_past {X} xs n a x h = by_order (leb a n) refl
  where
    by_order : (b : Bool) → leb a n ≡ b → insert xs (min a n) x ≡ insert xs a x
    by_order true e = ap (λ k. insert xs k x) (min-eq_left (leb-true a n e))
    by_order false e =
        let lt : n < a = leb-false a n e in
        let m : min a n ≡ n = min-eq_right (omega (arith, lt)) in
        rw (m, take_all n xs h, drop_all n xs h, take_all a xs (omega (arith, lt, h)), drop_all a xs (omega (arith, lt, h))) refl

pub put_at : {X : Type 0} (xs ys : List X) (n a m : ℕ) (x : X) → m ≡ min a n → n < length xs → ys ≡ copy_within xs m n (m + 1) → take (n + 1) (set ys m x) ≡ insert (take n xs) a x
put_at xs ys n a m x e h moves =
    let le : m ≤ n = omega (arith, e, min-le_right a n) in
    let few : length (take n xs) ≤ n = omega (arith, length-take n xs) in
    ap (λ zs. take (n + 1) (set zs m x)) moves ∙ (put_within xs n m x le h ∙ (ap (λ k. insert (take n xs) k x) e ∙ insert_past (take n xs) n a x few))

-- Once the elements behind a place stand one further to the front.
pub cut_at : {X : Type 0} (xs ys : List X) (n a : ℕ) → a < n → n ≤ length xs → ys ≡ copy_within xs (a + 1) n a → take (n - 1) ys ≡ remove (take n xs) a
cut_at xs ys n a lt h moves =
    let s : a + (n - (a + 1)) ≡ n - 1 = omega arith in
    let d = length-drop (a + 1) xs in
    let t = take-paste xs a (drop (a + 1) xs) (n - (a + 1)) (omega arith) (omega (arith, d)) in
    let f : take a xs ≡ take a (take n xs) = sym (take-take a n xs (omega arith)) in
    let next : a + 1 ≡ suc a = omega arith in
    let r : take (n - (a + 1)) (drop (a + 1) xs) ≡ drop (suc a) (take n xs) = part xs n (a + 1) (omega arith) ∙ ap (λ k. drop k (take n xs)) next in
    ap (take (n - 1)) moves ∙ (sym (ap (λ k. take k (copy_within xs (a + 1) n a)) s) ∙ (t ∙ (rw (f, r) refl)))
