-- How many uppermost frames have one level, and what leaves and stays.
use Rattle.std.proofs.Common.{◌≡◌, ℕ, suc, ◌<◌, ◌≤◌, Bool, true, false, ◌&&◌, cond, eqb, nat_lt, nat_le, List, [], ◌∷◌, length, take, drop, Some, None, Option, sym, refl, ap, ◌∙◌, arith}
use Rattle.std.specs.List.{take_while}
use Rattle.std.proofs.lemmas.List.Sums.{take_while-cons}
use Rattle.std.proofs.lemmas.Bool.{and_from, lt-ltb, le-leb, lt-leb}
use Rattle.configuration.specs.declared.frame.Frame.{Frame}
use Rattle.configuration.specs.Ops.{leaves, some_if, uppermost, beneath}
use Rattle.configuration.specs.Tasks.{run, run_at, one_more_if, task_level}

-- The run is counted at the level of the top frame.
counted : (v : ℕ) (fs : List Frame) → length (take_while (λ f. eqb f.level v) fs) ≡ run_at v fs
unfolding run_at
counted v [] = refl
counted v (f ∷ fs) = ap length (take_while-cons (λ g. eqb g.level v) f fs) ∙ by_test (eqb f.level v) (counted v fs)
  where
    by_test : (b : Bool) → length (take_while (λ g. eqb g.level v) fs) ≡ run_at v fs → length (cond b (f ∷ take_while (λ g. eqb g.level v) fs) []) ≡ one_more_if b (run_at v fs)
    by_test true e = ap suc e
    by_test false e = refl

pub run_counted : (fs : List Frame) → length (take_while (λ f. eqb f.level (task_level fs)) fs) ≡ run fs
unfolding run
run_counted [] = refl
run_counted (f ∷ fs) = counted f.level (f ∷ fs)

at_most : (b : Bool) (m n : ℕ) → m ≤ n → one_more_if b m ≤ suc n
at_most true m n h = omega arith
at_most false m n h = omega arith

-- A run is no longer than the stack.
run_at_le : (v : ℕ) (fs : List Frame) → run_at v fs ≤ length fs
unfolding run_at
run_at_le v [] = omega arith
run_at_le v (f ∷ fs) = at_most (eqb f.level v) (run_at v fs) (length fs) (run_at_le v fs)

pub run_le : (fs : List Frame) → run fs ≤ length fs
unfolding run
run_le [] = omega arith
run_le (f ∷ fs) = run_at_le f.level (f ∷ fs)

-- What leaves and what stays, where the run has 1 to 3 frames.
leaves_true : (fs : List Frame) (k : ℕ) → k ≡ run fs → 0 < k → k ≤ 3 → leaves fs ≡ true
leaves_true fs k e h le = and_from _ _ (lt-ltb 0 (run fs) (omega arith)) (le-leb (run fs) 3 (omega arith))

pub leaves_some : (fs u : List Frame) (k : ℕ) → k ≡ run fs → 0 < k → k ≤ 3 → u ≡ take k fs → Some u ≡ uppermost fs
leaves_some fs u k e h le t =
    let b = leaves_true fs k e h le in
    let some : Bool → Option (List Frame) = λ b. some_if b (take (run fs) fs) in
    ap Some (t ∙ ap (λ (n : ℕ). take n fs) e) ∙ sym (ap some b)

pub stays_some : (fs us : List Frame) (k : ℕ) → k ≡ run fs → 0 < k → k ≤ 3 → us ≡ drop k fs → us ≡ beneath fs
stays_some fs us k e h le d =
    let b = leaves_true fs k e h le in
    let stays : Bool → List Frame = λ b. cond b (drop (run fs) fs) fs in
    d ∙ (ap (λ (m : ℕ). drop m fs) e ∙ sym (ap stays b))

leaves_false : (fs : List Frame) (k : ℕ) → k ≡ run fs → 3 < k → leaves fs ≡ false
leaves_false fs k e h = and_last (nat_lt 0 (run fs)) (nat_le (run fs) 3) (lt-leb (run fs) 3 (omega arith))
  where
    and_last : (a b : Bool) → b ≡ false → (a && b) ≡ false
    and_last true b e = e
    and_last false b e = refl

pub leaves_none : (fs : List Frame) (k : ℕ) → k ≡ run fs → 3 < k → None ≡ uppermost fs
leaves_none fs k e h = sym (ap (λ b. some_if b (take (run fs) fs)) (leaves_false fs k e h))

pub stays_none : (fs : List Frame) (k : ℕ) → k ≡ run fs → 3 < k → fs ≡ beneath fs
stays_none fs k e h = sym (ap (λ b. cond b (drop (run fs) fs) fs) (leaves_false fs k e h))
