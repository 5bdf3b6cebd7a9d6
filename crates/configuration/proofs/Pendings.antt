-- The pending tasks of a buffer, and the order that they are kept in.
use Rattle.std.proofs.Common.{◌≡◌, ℕ, suc, ◌+◌, Bool, true, false, cond, leb, ltb, max, ⊎_elim, List, [], ◌∷◌, ◌++◌, map, length, take, drop, sym, refl, ap, ◌∙◌, arith}
use Rattle.std.specs.List.{take_while, fold}
use Rattle.std.specs.List as std
use Rattle.std.proofs.lemmas.List.{map-append, take-map, drop-map}
use Rattle.std.proofs.lemmas.List.Sums.{take_while-cons}
use Rattle.std.proofs.lemmas.Bool.{le-leb, lt-leb, le-ltb, lt-ltb, cases_lt}
use Rattle.configuration.specs.Config.{Pending}
use Rattle.configuration.specs.Layout.{key, insert, before_if}
use Rattle.configuration.specs.Meaning.{Task, frames_of}
use Rattle.configuration.specs.Ops.{rank, none_if}
use Rattle.configuration.specs.Tasks.{top, task_level, without}

-- How many stand before the first one whose key is not smaller.
chosen : (v k n : ℕ) (t : Task) (ws : List Task) → length ws ≡ n → length (cond (ltb v k) (t ∷ ws) []) ≡ none_if (leb k v) n
chosen v k n t ws e =
    ⊎_elim
    (λ h. rw (lt-ltb v k h, lt-leb k v h) (ap suc e))
    (λ h. rw (le-ltb v k h, le-leb k v h) refl)
    (cases_lt v k)

ranked : (k : ℕ) (ts : List Task) → length (take_while (λ u. ltb (key (frames_of u)) k) ts) ≡ rank k (map frames_of ts)
unfolding rank
ranked k [] = refl
ranked k (t ∷ ts) =
    let smaller : Task → Bool = λ u. ltb (key (frames_of u)) k in
    ap length (take_while-cons smaller t ts) ∙ chosen (key (frames_of t)) k (rank k (map frames_of ts)) t (take_while smaller ts) (ranked k ts)

-- The highest level, told from the first task on.
top_from : (ts : List Task) (h : ℕ) → fold (λ w u. max w (task_level (frames_of u))) h ts ≡ max h (top (map frames_of ts))
unfolding top
top_from [] h = omega arith
top_from (t ∷ ts) h = omega (arith, top_from ts (max h (task_level (frames_of t))))

pub top_told : (ts : List Task) → fold (λ w u. max w (task_level (frames_of u))) 0 ts ≡ top (map frames_of ts)
top_told ts = omega (arith, top_from ts 0)

-- A task goes in behind so many.
before : (b : Bool) (t u : Pending) (us rest : List Pending) (r : ℕ) → rest ≡ take r us ++ t ∷ drop r us → before_if b t u us rest ≡ take (none_if b r) (u ∷ us) ++ t ∷ drop (none_if b r) (u ∷ us)
before true t u us rest r e = refl
before false t u us rest r e = ap (λ (xs : List Pending). u ∷ xs) e

pub insert_rank : (t : Pending) (us : List Pending) → insert t us ≡ take (rank (key t) us) us ++ t ∷ drop (rank (key t) us) us
unfolding insert rank
insert_rank t [] = refl
insert_rank t (u ∷ us) = before (leb (key t) (key u)) t u us (insert t us) (rank (key t) us) (insert_rank t us)

-- What the code's list tells, after a task was put in, and after one was left out.
put_in : (ts : List Task) (a k : ℕ) (u : Task) → k ≡ key (frames_of u) → a ≡ rank k (map frames_of ts) → map frames_of (std.insert ts a u) ≡ insert (frames_of u) (map frames_of ts)
put_in ts a k u q r =
    let us = map frames_of ts in
    let w : rank (key (frames_of u)) us ≡ a = sym (r ∙ ap (λ (x : ℕ). rank x us) q) in
    let i = insert_rank (frames_of u) us in
    map-append frames_of (take a ts) (u ∷ drop a ts) ∙ sym (rw (w, take-map frames_of a ts, drop-map frames_of a ts) at i)

pub tasks_put_in : (b : Bool) (ts ns : List Task) (a k : ℕ) (u : Task) → k ≡ key (frames_of u) → a ≡ length (take_while (λ u. ltb (key (frames_of u)) k) ts) → ns ≡ cond b (std.insert ts a u) ts → map frames_of ns ≡ cond b (insert (frames_of u) (map frames_of ts)) (map frames_of ts)
tasks_put_in true ts ns a k u q r e = ap (map frames_of) e ∙ put_in ts a k u q (r ∙ ranked k ts)
tasks_put_in false ts ns a k u q r e = ap (map frames_of) e

pub tasks_cut : (ts : List Task) (i : ℕ) → map frames_of (std.remove ts i) ≡ without i (map frames_of ts)
unfolding without
tasks_cut ts i =
    let s : suc i ≡ i + 1 = omega arith in
    map-append frames_of (take i ts) (drop (suc i) ts)
    ∙ sym (rw (take-map frames_of i ts, drop-map frames_of (i + 1) ts, s) refl)
