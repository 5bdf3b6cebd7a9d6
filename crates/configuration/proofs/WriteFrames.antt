-- Frames written over zeros one after another: as many slots as frames were written are no more zeros.
use Rattle.std.proofs.Common.{◌≡◌, ℕ, zero, suc, ◌+◌, ◌*◌, ◌<◌, ◌≤◌, List, [], ◌∷◌, ◌++◌, length, get_or, take, Some, refl, sym, ap, ◌∙◌, add-one, arith}
use Rattle.std.proofs.Math.ListN.{replicate}
use borrow.Rule.Slice.PartMut.{put_mid}
use Rattle.std.proofs.lemmas.List.{take_all}
use Rattle.configuration.specs.declared.frame.Frame.{Frame}
use Rattle.configuration.specs.Layout.{slots}
use Rattle.configuration.specs.Ops.{slot}

-- No frames are zeros.
pub slots_none : (m k : ℕ) → k ≡ 3 * m → replicate k 0 ≡ slots m []
unfolding slots
slots_none zero k e = ap (λ i. replicate i 0) e
slots_none (suc m) k e =
    let i : k ≡ suc (suc (suc (3 * m))) = omega arith in
    ap (λ j. replicate j 0) i ∙ ap (λ xs. 0 ∷ 0 ∷ 0 ∷ xs) (slots_none m (3 * m) refl)

-- One slot more, at the place a.
slot_over : (n a m : ℕ) (xs : List Frame) (f d : Frame) → a ≡ 3 * n → n < length xs → length xs ≤ m → f ≡ get_or xs n d → put_mid a 3 (slots m (take n xs)) (slot (Some f)) ≡ slots m (take (suc n) xs)
unfolding slots
slot_over n a m [] f d e lt le is = absurd (omega arith)
slot_over n a zero (x ∷ xs) f d e lt le is = absurd (omega arith)
slot_over zero a (suc m) (x ∷ xs) f d e lt le is =
    ap (λ i. put_mid i 3 (slots (suc m) []) (slot (Some f))) e ∙ ap (λ g. slot (Some g) ++ slots m []) is
slot_over (suc n) a (suc m) (x ∷ xs) f d e lt le is =
    let i : a ≡ suc (suc (suc (3 * n))) = omega arith in
    ap (λ j. put_mid j 3 (slots (suc m) (x ∷ take n xs)) (slot (Some f))) i
    ∙ ap (λ ys. slot (Some x) ++ ys) (slot_over n (3 * n) m xs f d refl (omega arith) (omega arith) is)

pub slot_put : (n m k : ℕ) (xs : List Frame) (f d : Frame) (o w : List ℕ) → n < length xs → length xs ≤ m → k ≡ 3 → f ≡ get_or xs n d → w ≡ slot (Some f) → o ≡ slots m (take n xs) → put_mid (3 * n) k o w ≡ slots m (take (n + 1) xs)
slot_put n m k xs f d o w lt le ek is e inv =
    ap (λ i. put_mid (3 * n) i o w) ek
    ∙ (ap (λ x. put_mid (3 * n) 3 x w) inv
    ∙ (ap (λ x. put_mid (3 * n) 3 (slots m (take n xs)) x) e
    ∙ (slot_over n (3 * n) m xs f d refl lt le is ∙ ap (λ i. slots m (take i xs)) (sym (add-one n)))))

-- That was the last one.
pub slots_all : (n m : ℕ) (xs : List Frame) (o : List ℕ) → length xs ≤ n → o ≡ slots m (take n xs) → o ≡ slots m xs
slots_all n m xs o le inv = inv ∙ ap (slots m) (take_all n xs le)
