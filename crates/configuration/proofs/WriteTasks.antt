-- Tasks written over zeros one after another: nine bytes more of each task are no more zeros.
use Rattle.std.proofs.Common.{◌≡◌, ℕ, zero, suc, ◌+◌, ◌*◌, ◌<◌, ◌≤◌, List, [], ◌∷◌, ◌++◌, map, reverse, length, get_or, take, refl, sym, ap, ◌∙◌, add-one, arith}
use Rattle.std.proofs.Math.ListN.{replicate}
use borrow.Rule.Slice.PartMut.{put_mid}
use Rattle.std.proofs.lemmas.List.{take_all}
use Rattle.configuration.specs.declared.frame.Frame.{Frame}
use Rattle.configuration.specs.Layout.{slots, nine, task_slots}
use Rattle.configuration.specs.Meaning.{Task, frames_of}

-- No tasks are zeros.
pub tasks_none : (m k : ℕ) → k ≡ 9 * m → replicate k 0 ≡ task_slots m []
unfolding task_slots nine slots
tasks_none zero k e = ap (λ i. replicate i 0) e
tasks_none (suc m) k e =
    let i : k ≡ suc (suc (suc (suc (suc (suc (suc (suc (suc (9 * m))))))))) = omega arith in
    ap (λ j. replicate j 0) i ∙ ap (λ xs. nine [] ++ xs) (tasks_none m (9 * m) refl)

-- What is put behind the first nine bytes leaves them.
behind_nine : (fs : List Frame) (a : ℕ) (o w : List ℕ) → put_mid (suc (suc (suc (suc (suc (suc (suc (suc (suc a))))))))) 9 (slots 3 fs ++ o) w ≡ slots 3 fs ++ put_mid a 9 o w
unfolding slots
behind_nine [] a o w = refl
behind_nine (f ∷ []) a o w = refl
behind_nine (f ∷ g ∷ []) a o w = refl
behind_nine (f ∷ g ∷ h ∷ fs) a o w = refl

-- One task more, at the place a.
task_over : (n a m : ℕ) (us : List Task) (u : Task) → a ≡ 9 * n → n < length us → length us ≤ m → u ≡ get_or us n u → put_mid a 9 (task_slots m (map frames_of (take n us))) (nine (frames_of u)) ≡ task_slots m (map frames_of (take (suc n) us))
unfolding task_slots nine slots
task_over n a m [] u e lt le is = absurd (omega arith)
task_over n a zero (v ∷ us) u e lt le is = absurd (omega arith)
task_over zero a (suc m) (v ∷ us) u e lt le is =
    ap (λ i. put_mid i 9 (task_slots (suc m) []) (nine (frames_of u))) e ∙ ap (λ t. nine (frames_of t) ++ task_slots m []) is
task_over (suc n) a (suc m) (v ∷ us) u e lt le is =
    let i : a ≡ suc (suc (suc (suc (suc (suc (suc (suc (suc (9 * n))))))))) = omega arith in
    let o = task_slots m (map frames_of (take n us)) in
    ap (λ j. put_mid j 9 (nine (frames_of v) ++ o) (nine (frames_of u))) i
    ∙ (behind_nine (reverse (frames_of v)) (9 * n) o (nine (frames_of u))
    ∙ ap (λ ys. nine (frames_of v) ++ ys) (task_over n (9 * n) m us u refl (omega arith) (omega arith) is))

pub task_put : (n m k : ℕ) (us : List Task) (u : Task) (o w : List ℕ) → n < length us → length us ≤ m → k ≡ 9 → u ≡ get_or us n u → w ≡ slots 3 (reverse (frames_of u)) → o ≡ task_slots m (map frames_of (take n us)) → put_mid (9 * n) k o w ≡ task_slots m (map frames_of (take (n + 1) us))
unfolding nine
task_put n m k us u o w lt le ek is e inv =
    ap (λ i. put_mid (9 * n) i o w) ek
    ∙ (ap (λ x. put_mid (9 * n) 9 x w) inv
    ∙ (ap (λ x. put_mid (9 * n) 9 (task_slots m (map frames_of (take n us))) x) e
    ∙ (task_over n (9 * n) m us u refl lt le is ∙ ap (λ i. task_slots m (map frames_of (take i us))) (sym (add-one n)))))

-- That was the last one.
pub tasks_put : (n m : ℕ) (us : List Task) (o : List ℕ) → length us ≤ n → o ≡ task_slots m (map frames_of (take n us)) → o ≡ task_slots m (map frames_of us)
tasks_put n m us o le inv = inv ∙ ap (λ xs. task_slots m (map frames_of xs)) (take_all n us le)
