-- The nine bytes of a task as a number.
use Rattle.std.proofs.Common.{◌≡◌, ℕ, suc, ◌+◌, ◌*◌, List, [], ◌∷◌, reverse, drop, sym, refl, ap, ◌∙◌, arith}
use Rattle.std.specs.List.{slice_get}
use Rattle.std.proofs.lemmas.List.{reverse-reverse}
use Rattle.configuration.specs.declared.frame.Frame.{Frame}
use Rattle.configuration.specs.Layout.{mark, slots, nine, read_from, key}
use Rattle.configuration.specs.Ops.{number_of}

-- One slot is read: a frame, or zeros.
slot_read : (x k : ℕ) (xs : List Frame) → read_from x (slots (suc k) xs) ≡ read_from (x * 16777216 + number_of (slice_get xs 0)) (slots k (drop 1 xs))
unfolding slots
slot_read x k [] =
    let e : ((x * 256 + 0) * 256 + 0) * 256 + 0 ≡ x * 16777216 + 0 = omega arith in ap (λ y. read_from y (slots k [])) e
slot_read x k (f ∷ fs) =
    let e : ((x * 256 + mark f) * 256 + f.l) * 256 + f.level ≡ x * 16777216 + ((mark f * 256 + f.l) * 256 + f.level) = omega arith in
    ap (λ y. read_from y (slots k fs)) e

second : (xs : List Frame) → slice_get (drop 1 xs) 0 ≡ slice_get xs 1
second [] = refl
second (f ∷ []) = refl
second (f ∷ g ∷ xs) = refl

third : (xs : List Frame) → slice_get (drop 1 (drop 1 xs)) 0 ≡ slice_get xs 2
third [] = refl
third (f ∷ []) = refl
third (f ∷ g ∷ []) = refl
third (f ∷ g ∷ h ∷ xs) = refl

pub key_is : (xs : List Frame) (a b c : ℕ) → a ≡ number_of (slice_get xs 0) → b ≡ number_of (slice_get xs 1) → c ≡ number_of (slice_get xs 2) → (a * 16777216 + b) * 16777216 + c ≡ key (reverse xs)
unfolding key nine slots
key_is xs a b c ea eb ec =
    let ys = drop 1 xs in
    let zs = drop 1 ys in
    let n₁ : ℕ = number_of (slice_get xs 0) in
    let n₂ : ℕ = number_of (slice_get ys 0) in
    let n₃ : ℕ = number_of (slice_get zs 0) in
    let s₁ = slot_read 0 2 xs in
    let s₂ = slot_read (0 * 16777216 + n₁) 1 ys in
    let s₃ = slot_read ((0 * 16777216 + n₁) * 16777216 + n₂) 0 zs in
    let e₂ : b ≡ n₂ = eb ∙ ap number_of (sym (second xs)) in
    let e₃ : c ≡ n₃ = ec ∙ ap number_of (sym (third xs)) in
    let e : (a * 16777216 + b) * 16777216 + c ≡ ((0 * 16777216 + n₁) * 16777216 + n₂) * 16777216 + n₃ = omega (arith, ea, e₂, e₃) in
    e ∙ sym (ap (λ ws. read_from 0 (slots 3 ws)) (reverse-reverse xs) ∙ (s₁ ∙ (s₂ ∙ s₃)))
