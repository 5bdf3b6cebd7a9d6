-- Frames tested one on another: from the lowest up as from the uppermost down.
use Rattle.std.proofs.Common.{◌≡◌, Bool, true, false, ◌&&◌, List, [], ◌∷◌, reverse, drop, sym, refl, ap, ◌∙◌}
use mathlib.Core.List.{reverse_aux}
use Rattle.std.specs.List.{list_all, zip}
use Rattle.configuration.specs.declared.frame.Frame.{Frame}
use Rattle.configuration.specs.Tests.{each_pair}

swapped : (a b c : Bool) → (b && (a && c)) ≡ ((a && b) && c)
swapped true b c = refl
swapped false true c = refl
swapped false false c = refl

-- The frames xs, the lowest first, under the frame y and those on it.
pairs_onto : (r : Frame → Frame → Bool) (xs : List Frame) (y : Frame) (ys : List Frame) → each_pair r (reverse_aux xs (y ∷ ys)) ≡ (each_pair (λ f g. r g f) (y ∷ xs) && each_pair r (y ∷ ys))
unfolding each_pair
pairs_onto r [] y ys = refl
pairs_onto r (x ∷ xs) y ys = pairs_onto r xs x (y ∷ ys) ∙ swapped (r x y) (each_pair (λ f g. r g f) (x ∷ xs)) (each_pair r (y ∷ ys))

pairs_zipped : (r : Frame → Frame → Bool) (xs : List Frame) → each_pair r xs ≡ list_all (λ p. r p.0 p.1) (zip xs (drop 1 xs))
unfolding each_pair
pairs_zipped r [] = refl
pairs_zipped r (x ∷ []) = refl
pairs_zipped r (x ∷ y ∷ xs) = ap (λ b. r x y && b) (pairs_zipped r (y ∷ xs))

pairs_flipped : (r : Frame → Frame → Bool) (xs : List Frame) → each_pair (λ f g. r g f) xs ≡ each_pair r (reverse xs)
unfolding each_pair
pairs_flipped r [] = refl
pairs_flipped r (x ∷ xs) = sym (pairs_onto r xs x [] ∙ and_true (each_pair (λ f g. r g f) (x ∷ xs)))
  where
    and_true : (b : Bool) → (b && true) ≡ b
    and_true true = refl
    and_true false = refl

pub pairs_backwards : (r : Frame → Frame → Bool) (xs : List Frame) → list_all (λ p. r p.1 p.0) (zip xs (drop 1 xs)) ≡ each_pair r (reverse xs)
pairs_backwards r xs = sym (pairs_zipped (λ f g. r g f) xs) ∙ pairs_flipped r xs
