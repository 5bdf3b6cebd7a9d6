-- The tests find lawful what is lawful. Assumes nothing.
use Rattle.std.proofs.Common.{◌≡◌, ℕ, ◌<◌, ◌≤◌, Bool, true, ◌&&◌, eqb, ltb, ◌⊎◌, List, [], ◌∷◌, length, refl, inl, inr, arith}
use Rattle.std.proofs.lemmas.Bool.{and_parts, and_from, or_cases, or_left, or_right, ltb-true, lt-ltb, eqb-true, eq-eqb, cases_lt}
use Rattle.std.specs.List.{list_all}
use Rattle.program.specs.Table.{Table, statement_at}
use Rattle.configuration.specs.declared.frame.Frame.{Frame}
use Rattle.configuration.specs.Config.{Pending, BufferState, Config}
use Rattle.configuration.specs.Layout.{width}
use Rattle.configuration.specs.Reading.{decoded}
use Rattle.configuration.specs.Lawful.{Each, none, also, EachPair, no_frames, lone, pair, RangedFrame, RangedBuffer, RoomyBuffer, is_call, RestsOn, CalledBy, OrderlyBuffer, Orderly, LawfulConfig}
use Rattle.configuration.specs.Tests.{ranged_frame, rests_on, called_by, each_pair, some_frames, lawful_task, ascends, lawful_stack, lawful_buffer, lawful_config}
use Rattle.configuration.specs.Bytes.{each_weaker, each_both}
use Rattle.configuration.specs.Told.{each_passed, decoded_ranged, told_roomy}
use Rattle.configuration.proofs.Sorting.{Ascending}

-- A test of each element, and of each pair.
pub each_passes : {A : Type 0} {P : A → Type 0} (p : A → Bool) → ((x : A) → P x → p x ≡ true) → {xs : List A} → Each P xs → list_all p xs ≡ true
each_passes p k none = refl
each_passes p k (also {x = x} {xs = xs} h hs) = and_from (p x) (list_all p xs) (k x h) (each_passes p k hs)

pairs_from : {R : Frame → Frame → Type 0} (r : Frame → Frame → Bool) → ((f g : Frame) → r f g ≡ true → R f g) → (fs : List Frame) → each_pair r fs ≡ true → EachPair R fs
unfolding each_pair
pairs_from r k [] e = no_frames
pairs_from r k (f ∷ []) e = lone
pairs_from r k (f ∷ g ∷ fs) e = let a = and_parts (r f g) (each_pair r (g ∷ fs)) e in pair (k f g a.0) (pairs_from r k (g ∷ fs) a.1)

pairs_pass : {R : Frame → Frame → Type 0} (r : Frame → Frame → Bool) → ((f g : Frame) → R f g → r f g ≡ true) → {fs : List Frame} → EachPair R fs → each_pair r fs ≡ true
unfolding each_pair
pairs_pass r k no_frames = refl
pairs_pass r k lone = refl
pairs_pass r k (pair {f = f} {g = g} {fs = fs} h hs) = and_from (r f g) (each_pair r (g ∷ fs)) (k f g h) (pairs_pass r k hs)

module _ (t : Table) where
  -- Frames, alone and on each other.
  frame_passes : (f : Frame) → RangedFrame t f → ranged_frame t f ≡ true
  frame_passes f r = and_from _ _ (lt-ltb f.place (length t.places) r.place) (and_from _ _ (lt-ltb f.l t.values r.l) (lt-ltb f.level t.levels r.level))

  called_from_test : (f g : Frame) → called_by t f g ≡ true → CalledBy t f g
  called_from_test f g e =
      let a = and_parts (eqb g.level f.level) (is_call (statement_at t g.place)) e in
      record { level = eqb-true g.level f.level a.0; calls = a.1 }

  called_passes : (f g : Frame) → CalledBy t f g → called_by t f g ≡ true
  called_passes f g r = and_from (eqb g.level f.level) (is_call (statement_at t g.place)) (eq-eqb g.level f.level r.level) r.calls

  rests_from_test : (f g : Frame) → rests_on t f g ≡ true → RestsOn t f g
  rests_from_test f g e = split (or_cases (ltb g.level f.level) (called_by t f g) e)
    where
      split : (ltb g.level f.level ≡ true) ⊎ (called_by t f g ≡ true) → RestsOn t f g
      split (inl h) = let k = ltb-true g.level f.level h in record { rises = omega arith; calls = λ q. absurd (omega arith) }
      split (inr h) = let k = called_from_test f g h in record { rises = omega (arith, k.level); calls = λ q. k.calls }

  rests_passes : (f g : Frame) → RestsOn t f g → rests_on t f g ≡ true
  rests_passes f g r = split (cases_lt g.level f.level)
    where
      split : (g.level < f.level) ⊎ (f.level ≤ g.level) → rests_on t f g ≡ true
      split (inl h) = or_left (ltb g.level f.level) (called_by t f g) (lt-ltb g.level f.level h)
      split (inr h) = let e : g.level ≡ f.level = omega (arith, r.rises) in or_right (ltb g.level f.level) (called_by t f g) (called_passes f g (record { level = e; calls = r.calls e }))

  -- Tasks.
  record LawfulTask (u : Pending) : Type 0 where
    least : 1 ≤ length u
    ranged : Each (RangedFrame t) u
    called : EachPair (CalledBy t) u

  least_some : (u : Pending) → 1 ≤ length u → some_frames u ≡ true
  least_some [] h = absurd (omega arith)
  least_some (f ∷ u) h = refl

  task_from_test : (u : Pending) → lawful_task t u ≡ true → EachPair (CalledBy t) u
  unfolding lawful_task
  task_from_test u e =
      let a = and_parts (some_frames u) (list_all (ranged_frame t) u && each_pair (called_by t) u) e in
      pairs_from (called_by t) called_from_test u (and_parts (list_all (ranged_frame t) u) (each_pair (called_by t) u) a.1).1

  task_passes : (u : Pending) → LawfulTask u → lawful_task t u ≡ true
  unfolding lawful_task
  task_passes u r = and_from _ _ (least_some u r.least) (and_from _ _ (each_passes (ranged_frame t) frame_passes r.ranged) (pairs_pass (called_by t) called_passes r.called))

  -- Buffers.
  record LawfulBuffer (b : BufferState) : Type 0 where
    ranged : RangedBuffer t b
    roomy : RoomyBuffer b
    orderly : OrderlyBuffer t b
    ascending : ascends b.pending ≡ true

  buffer_from_test : (b : BufferState) → lawful_buffer t b ≡ true → OrderlyBuffer t b × (ascends b.pending ≡ true)
  unfolding lawful_buffer lawful_stack
  buffer_from_test b e =
      let a = and_parts (lawful_stack t b.stack) (list_all (lawful_task t) b.pending && ascends b.pending) e in
      let p = and_parts (list_all (lawful_task t) b.pending) (ascends b.pending) a.1 in
      let q = and_parts (list_all (ranged_frame t) b.stack) (each_pair (rests_on t) b.stack) a.0 in
      (record { stack = pairs_from (rests_on t) rests_from_test b.stack q.1; pending = each_passed (lawful_task t) task_from_test b.pending p.0 }, p.1)

  buffer_passes : (b : BufferState) → LawfulBuffer b → lawful_buffer t b ≡ true
  unfolding lawful_buffer lawful_stack
  buffer_passes b r = and_from _ _ (and_from _ _ (each_passes (ranged_frame t) frame_passes r.ranged.stack) (pairs_pass (rests_on t) rests_passes r.orderly.stack)) (and_from _ _ (each_passes (lawful_task t) task_passes tasks) r.ascending)
    where
      rooms : Each (λ (u : Pending). (1 ≤ length u) × Each (RangedFrame t) u) b.pending
      rooms = each_both (λ u p q. (p.least, q)) r.roomy.tasks r.ranged.pending

      tasks : Each LawfulTask b.pending
      tasks = each_both (λ u p q. record { least = p.0; ranged = p.1; called = q }) rooms r.orderly.pending

  -- Configurations: the tests find those that are lawful and whose tasks ascend.
  config_from_test : (c : Config) → lawful_config t c ≡ true → Orderly t c × Ascending c
  unfolding lawful_config
  config_from_test c e =
      let a = and_parts (ltb c.active t.buffers) (list_all (λ v. ltb v t.values) c.globals && list_all (lawful_buffer t) c.buffers) e in
      let p = and_parts (list_all (λ v. ltb v t.values) c.globals) (list_all (lawful_buffer t) c.buffers) a.1 in
      let bs = each_passed (lawful_buffer t) buffer_from_test c.buffers p.1 in
      (each_weaker (λ b r. r.0) bs, each_weaker (λ b r. r.1) bs)

  pub config_passes : (c : Config) → LawfulConfig t c → Ascending c → lawful_config t c ≡ true
  unfolding lawful_config
  config_passes c r a = and_from _ _ (lt-ltb c.active t.buffers r.ranges.active) (and_from _ _ (each_passes (λ v. ltb v t.values) (λ v. lt-ltb v t.values) r.ranges.globals) (each_passes (lawful_buffer t) buffer_passes buffers))
    where
      limits : Each (λ (b : BufferState). RangedBuffer t b × RoomyBuffer b) c.buffers
      limits = each_both (λ b p q. (p, q)) r.ranges.buffers r.space

      orders : Each (λ (b : BufferState). OrderlyBuffer t b × (ascends b.pending ≡ true)) c.buffers
      orders = each_both (λ b p q. (p, q)) r.order a

      buffers : Each LawfulBuffer c.buffers
      buffers = each_both (λ b p q. record { ranged = p.0; roomy = p.1; orderly = q.0; ascending = q.1 }) limits orders

-- So a line of the width that passes the tests tells a lawful configuration whose tasks ascend.
pub decoded_lawful : (t : Table) (l : List ℕ) → length l ≡ width t → lawful_config t (decoded t l) ≡ true → LawfulConfig t (decoded t l) × Ascending (decoded t l)
decoded_lawful t l h e =
    let o = config_from_test t (decoded t l) e in
    (record { ranges = decoded_ranged t l h e; space = told_roomy t l; order = o.0 }, o.1)
