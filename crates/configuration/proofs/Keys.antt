-- A task is told by its nine bytes, and ascending lists by their counts. Assumes nothing.
use Rattle.std.proofs.Common.{◌≡◌, ℕ, ◌+◌, ◌*◌, ◌≤◌, Bool, true, false, List, [], ◌∷◌, ◌++◌, length, sym, refl, ap, ◌∙◌, subst, ap₂, arith}
use Rattle.program.specs.Table.{Table}
use Rattle.program.specs.Limits.{Sound}
use Rattle.configuration.specs.Config.{Pending, same_task, once_if, times, Alike}
use Rattle.configuration.specs.Layout.{nine, read_from, key, sort}
use Rattle.configuration.specs.Reading.{task_from}
use Rattle.configuration.specs.Lawful.{Each, none, also, RangedFrame, RoomyTask}
use Rattle.configuration.specs.Tests.{ascends}
use Rattle.configuration.specs.Bytes.{Byte, each_weaker, each_both, each_sort, nine_long, nine_bytes}
use Rattle.configuration.proofs.Undone.{ranged_low, task_nine}
use Rattle.configuration.proofs.Counting.{same_task_true, times_first, alike_sym, alike_trans, alike_tail, alike_none}
use Rattle.configuration.proofs.Sorting.{ascends_parts, sort_alike, sort_ascends}

-- Equally many bytes are told by the number that they are read as.
pub read_injective : (m n : ℕ) {xs ys : List ℕ} → Each Byte xs → Each Byte ys → length xs ≡ length ys → read_from m xs ≡ read_from n ys → (m ≡ n) × (xs ≡ ys)
read_injective m n none none h e = (e, refl)
read_injective m n none (also q qs) h e = absurd (omega arith)
read_injective m n (also p ps) none h e = absurd (omega arith)
read_injective m n (also {x = x} {xs = xs} p ps) (also {x = y} {xs = ys} q qs) h e =
    let l : length xs ≡ length ys = omega arith in
    let r = read_injective (m * 256 + x) (n * 256 + y) ps qs l e in
    let d = r.0 in
    let a : m ≡ n = omega arith in
    let b : x ≡ y = omega arith in
    (a, ap₂ ◌∷◌ b r.1)

-- A task that nine bytes can tell.
pub record Told (t : Table) (u : Pending) : Type 0 where
  pub ranged : Each (RangedFrame t) u
  pub roomy : RoomyTask u

pub each_told : {t : Table} {us : List Pending} → Each (Each (RangedFrame t)) us → Each RoomyTask us → Each (Told t) us
each_told ps qs = each_both (λ u p q. record { ranged = p; roomy = q }) ps qs

-- A task that is counted in an ascending list has no smaller key than its first.
least_key : (u v : Pending) (vs : List Pending) → ascends (v ∷ vs) ≡ true → 1 ≤ times u (v ∷ vs) → key v ≤ key u
least_key u v [] e h = split (same_task u v) refl h
  where
    split : (b : Bool) → same_task u v ≡ b → 1 ≤ once_if b 0 → key v ≤ key u
    split true s k = omega (arith, ap key (same_task_true u v s))
    split false s k = absurd (omega arith)
least_key u v (w ∷ vs) e h = split (same_task u v) refl h (least_key u w vs a.1)
  where
    a : (key v ≤ key w) × (ascends (w ∷ vs) ≡ true)
    a = ascends_parts v (w ∷ vs) e

    split : (b : Bool) → same_task u v ≡ b → 1 ≤ once_if b (times u (w ∷ vs)) → (1 ≤ times u (w ∷ vs) → key w ≤ key u) → key v ≤ key u
    split true s k f = omega (arith, ap key (same_task_true u v s))
    split false s k f = omega (arith, f k, a.0)

module _ (t : Table) (s : Sound t) where
  pub nine_injective : (u v : Pending) → Told t u → Told t v → nine u ≡ nine v → u ≡ v
  nine_injective u v p q e = sym (back u p) ∙ (ap (λ (bs : List ℕ). task_from (bs ++ [])) e ∙ back v q)
    where
      back : (w : Pending) → Told t w → task_from (nine w ++ []) ≡ w
      back w r = task_nine (each_weaker (ranged_low t s) r.ranged) r.roomy.most []

  pub key_injective : (u v : Pending) → Told t u → Told t v → key u ≡ key v → u ≡ v
  unfolding key
  key_injective u v p q e = nine_injective u v p q (read_injective 0 0 (nine_bytes t s p.ranged) (nine_bytes t s q.ranged) (nine_long u ∙ sym (nine_long v)) e).1

  -- Ascending lists that are alike are equal, so alike lists have one sorted list.
  pub ascending_same : {us vs : List Pending} → Each (Told t) us → Each (Told t) vs → ascends us ≡ true → ascends vs ≡ true → Alike us vs → us ≡ vs
  ascending_same none none e f a = refl
  ascending_same none (also {x = v} {xs = vs} q qs) e f a = absurd (alike_none v vs a)
  ascending_same (also {x = u} {xs = us} p ps) none e f a = absurd (alike_none u us (alike_sym a))
  ascending_same (also {x = u} {xs = us} p ps) (also {x = v} {xs = vs} q qs) e f a = ap₂ ◌∷◌ first (ascending_same ps qs (ascends_parts u us e).1 (ascends_parts v vs f).1 tails)
    where
      keys : key u ≡ key v
      keys =
          let h = least_key u v vs f (subst (λ (n : ℕ). 1 ≤ n) (a.alike u) (times_first u us)) in
          let k = least_key v u us e (subst (λ (n : ℕ). 1 ≤ n) (sym (a.alike v)) (times_first v vs)) in
          omega arith

      first : u ≡ v
      first = key_injective u v p q keys

      tails : Alike us vs
      tails = alike_tail v (subst (λ (w : Pending). Alike (w ∷ us) (v ∷ vs)) first a)

  pub sorts_same : {us vs : List Pending} → Each (Told t) us → Each (Told t) vs → Alike us vs → sort us ≡ sort vs
  sorts_same {us} {vs} ps qs a = ascending_same (each_sort ps) (each_sort qs) (sort_ascends us) (sort_ascends vs) (alike_trans (sort_alike us) (alike_trans a (alike_sym (sort_alike vs))))
