-- Tasks read one after another: what was read and what the rest tells are together what all the bytes tell.
use Rattle.std.proofs.Common.{◌≡◌, ℕ, zero, suc, ◌-◌, ◌*◌, ◌<◌, ◌≤◌, eqb, List, [], ◌∷◌, ◌++◌, map, reverse, length, take, drop, get_or, sym, refl, ap, ◌∙◌, append_assoc, append-nil, arith}
use Rattle.std.proofs.lemmas.List.{map_push, drop_at, drop-append-le, length-drop, take-append-drop}
use Rattle.std.proofs.lemmas.Bool.{eq-eqb, ne_eqb}
use Rattle.configuration.specs.Config.{Pending}
use Rattle.configuration.specs.Reading.{unless, unslots, task_from, untasks}
use Rattle.configuration.specs.Meaning.{Task, frames_of}
use Rattle.configuration.proofs.ReadFrames.{unslots_front}
use Rattle.configuration.proofs.Backwards.{one_longer}

-- Bytes tell the task of their first nine and those behind it, unless its place is zero.
first_byte : (s r : List ℕ) → 1 ≤ length s → get_or (s ++ r) 0 0 ≡ get_or s 0 0
first_byte [] r h = absurd (omega arith)
first_byte (a ∷ s) r h = refl

opened : (k : ℕ) (s r : List ℕ) → length s ≡ 9 → untasks (suc k) (s ++ r) ≡ unless (eqb (get_or s 0 0) 0) (reverse (unslots 3 s)) (untasks k r)
unfolding untasks task_from
opened k s r h =
    let a = first_byte s r (omega (arith, h)) in
    let b = unslots_front 3 s r (omega (arith, h)) in
    let d = drop_at s r 9 h in
    rw (a, b, d) refl

none_left : (k : ℕ) (s r : List ℕ) → length s ≡ 9 → get_or s 0 0 ≡ 0 → untasks k (s ++ r) ≡ []
unfolding untasks
none_left zero s r h z = refl
none_left (suc k) s r h z = opened k s r h ∙ ap (λ b. unless b (reverse (unslots 3 s)) (untasks k r)) (eq-eqb (get_or s 0 0) 0 z)

-- The bytes of the first tasks alone tell as many tasks, and so it is with frames.
untasks_front : (n : ℕ) (s r : List ℕ) → 9 * n ≤ length s → untasks n (s ++ r) ≡ untasks n s
unfolding untasks task_from
untasks_front zero s r h = refl
untasks_front (suc n) s r h =
    let a = first_byte s r (omega (arith, h)) in
    let b = unslots_front 3 s r (omega (arith, h)) in
    let d = drop-append-le 9 s r (omega (arith, h)) in
    let e = untasks_front n (drop 9 s) r (omega (arith, h, length-drop 9 s)) in
    rw (a, b, d, e) refl

pub untasks_taken : (n k : ℕ) (bs : List ℕ) → 9 * n ≤ length (take k bs) → untasks n (take k bs) ≡ untasks n bs
untasks_taken n k bs h = sym (untasks_front n (take k bs) (drop k bs) h) ∙ ap (untasks n) (take-append-drop k bs)

pub unslots_taken : (n k : ℕ) (bs : List ℕ) → 3 * n ≤ length (take k bs) → unslots n (take k bs) ≡ unslots n bs
unslots_taken n k bs h = sym (unslots_front n (take k bs) (drop k bs) h) ∙ ap (unslots n) (take-append-drop k bs)

-- One task more.
pub task_more : (m : ℕ) (us vs : List Task) (u : Task) (bs s r : List ℕ) (all : List Pending) → length us < m → length s ≡ 9 → bs ≡ s ++ r → (get_or s 0 0 ≡ 0 → ⊥) → frames_of u ≡ reverse (unslots 3 s) → vs ≡ us ++ u ∷ [] → map frames_of us ++ untasks (m - length us) bs ≡ all → map frames_of vs ++ untasks (m - length vs) r ≡ all
task_more m us vs u bs s r all lt h e ne is more inv =
    let k = m - length vs in
    let t = reverse (unslots 3 s) in
    let done = map frames_of us in
    let i : m - length us ≡ suc k = omega (arith, one_longer us vs u more, lt) in
    let o : untasks (suc k) (s ++ r) ≡ t ∷ untasks k r = opened k s r h ∙ ap (λ b. unless b t (untasks k r)) (ne_eqb (get_or s 0 0) 0 ne) in
    let a : map frames_of vs ≡ done ++ t ∷ [] = ap (map frames_of) more ∙ (map_push frames_of us u ∙ ap (λ x. done ++ x ∷ []) is) in
    ap (λ ts. ts ++ untasks k r) a
    ∙ (append_assoc done (t ∷ []) (untasks k r)
    ∙ (ap (λ ts. done ++ ts) (sym o)
    ∙ (ap (λ b. done ++ untasks (suc k) b) (sym e) ∙ (ap (λ n. done ++ untasks n bs) (sym i) ∙ inv))))

-- A zero place, or no more room: that is all.
pub task_none : (k : ℕ) (us : List Task) (bs s r : List ℕ) (all : List Pending) → length s ≡ 9 → bs ≡ s ++ r → get_or s 0 0 ≡ 0 → map frames_of us ++ untasks k bs ≡ all → map frames_of us ≡ all
task_none k us bs s r all h e z inv =
    let done = map frames_of us in
    sym (append-nil done)
    ∙ (ap (λ ts. done ++ ts) (sym (none_left k s r h z)) ∙ (ap (λ b. done ++ untasks k b) (sym e) ∙ inv))

pub tasks_all : (k : ℕ) (us : List Task) (bs : List ℕ) (all : List Pending) → k ≡ 0 → map frames_of us ++ untasks k bs ≡ all → map frames_of us ≡ all
unfolding untasks
tasks_all k us bs all z inv =
    let done = map frames_of us in
    sym (append-nil done) ∙ (ap (λ n. done ++ untasks n bs) (sym z) ∙ inv)
