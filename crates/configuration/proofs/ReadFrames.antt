-- Frames read one after another: what was read and what the rest tells are together what all the bytes tell.
use Rattle.std.proofs.Common.{◌≡◌, ℕ, zero, suc, ◌-◌, ◌*◌, ◌<◌, ◌≤◌, eqb, List, [], ◌∷◌, ◌++◌, length, get_or, sym, refl, ap, ◌∙◌, append_assoc, append-nil, arith}
use Rattle.std.proofs.lemmas.Bool.{eq-eqb, ne_eqb}
use Rattle.configuration.specs.declared.frame.Frame.{Frame}
use Rattle.configuration.specs.Reading.{unless, unslots}
use Rattle.configuration.proofs.Backwards.{one_longer}

-- The frame that a slot tells.
abbrev pub told : List ℕ → Frame
told s = record { place = get_or s 0 0 - 1; l = get_or s 1 0; level = get_or s 2 0 }

-- Bytes tell the frame of their first slot and those behind it, unless its place is zero.
opened : (k : ℕ) (s r : List ℕ) → length s ≡ 3 → unslots (suc k) (s ++ r) ≡ unless (eqb (get_or s 0 0) 0) (told s) (unslots k r)
unfolding unslots
opened k [] r h = absurd (omega arith)
opened k (a ∷ []) r h = absurd (omega arith)
opened k (a ∷ b ∷ []) r h = absurd (omega arith)
opened k (a ∷ b ∷ c ∷ []) r h = refl
opened k (a ∷ b ∷ c ∷ d ∷ s) r h = absurd (omega arith)

none_left : (k : ℕ) (s r : List ℕ) → length s ≡ 3 → get_or s 0 0 ≡ 0 → unslots k (s ++ r) ≡ []
unfolding unslots
none_left zero s r h z = refl
none_left (suc k) s r h z = opened k s r h ∙ ap (λ b. unless b (told s) (unslots k r)) (eq-eqb (get_or s 0 0) 0 z)

-- The bytes of the first slots alone tell as many frames.
pub unslots_front : (n : ℕ) (s r : List ℕ) → 3 * n ≤ length s → unslots n (s ++ r) ≡ unslots n s
unfolding unslots
unslots_front zero s r h = refl
unslots_front (suc n) [] r h = absurd (omega arith)
unslots_front (suc n) (a ∷ []) r h = absurd (omega arith)
unslots_front (suc n) (a ∷ b ∷ []) r h = absurd (omega arith)
unslots_front (suc n) (a ∷ b ∷ c ∷ s) r h =
    ap (λ fs. unless (eqb a 0) (told (a ∷ b ∷ c ∷ s)) fs) (unslots_front n s r (omega arith))

-- One frame more.
pub frame_more : (m : ℕ) (xs ys : List Frame) (bs s r : List ℕ) (all : List Frame) → length xs < m → length s ≡ 3 → bs ≡ s ++ r → (get_or s 0 0 ≡ 0 → ⊥) → ys ≡ xs ++ told s ∷ [] → xs ++ unslots (m - length xs) bs ≡ all → ys ++ unslots (m - length ys) r ≡ all
frame_more m xs ys bs s r all lt h e ne more inv =
    let k = m - length ys in
    let i : m - length xs ≡ suc k = omega (arith, one_longer xs ys (told s) more, lt) in
    let o : unslots (suc k) (s ++ r) ≡ told s ∷ unslots k r = opened k s r h ∙ ap (λ b. unless b (told s) (unslots k r)) (ne_eqb (get_or s 0 0) 0 ne) in
    ap (λ fs. fs ++ unslots k r) more
    ∙ (append_assoc xs (told s ∷ []) (unslots k r)
    ∙ (ap (λ fs. xs ++ fs) (sym o)
    ∙ (ap (λ b. xs ++ unslots (suc k) b) (sym e) ∙ (ap (λ n. xs ++ unslots n bs) (sym i) ∙ inv))))

-- A zero place, or no more room: that is all.
pub frame_none : (k : ℕ) (xs : List Frame) (bs s r : List ℕ) (all : List Frame) → length s ≡ 3 → bs ≡ s ++ r → get_or s 0 0 ≡ 0 → xs ++ unslots k bs ≡ all → xs ≡ all
frame_none k xs bs s r all h e z inv =
    sym (append-nil xs)
    ∙ (ap (λ fs. xs ++ fs) (sym (none_left k s r h z)) ∙ (ap (λ b. xs ++ unslots k b) (sym e) ∙ inv))

pub frames_all : (k : ℕ) (xs : List Frame) (bs : List ℕ) (all : List Frame) → k ≡ 0 → xs ++ unslots k bs ≡ all → xs ≡ all
unfolding unslots
frames_all k xs bs all z inv = sym (append-nil xs) ∙ (ap (λ n. xs ++ unslots n bs) (sym z) ∙ inv)
