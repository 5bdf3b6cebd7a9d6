-- Reading undoes writing. Assumes nothing.
use Rattle.std.proofs.Common.{◌≡◌, ℕ, zero, suc, ◌+◌, ◌-◌, ◌<◌, ◌≤◌, Bool, false, eqb, List, [], ◌∷◌, ◌++◌, reverse, length, get_or, take, drop, sym, refl, ap, ◌∙◌, subst, ap₂, arith, take_at, drop_at}
use Rattle.std.proofs.lemmas.List.{append_assoc, reverse-reverse, length-reverse}
use Rattle.std.proofs.lemmas.Bool.{ne_eqb}
use Rattle.program.specs.Table.{Table}
use Rattle.program.specs.Limits.{Sound}
use Rattle.configuration.specs.declared.frame.Frame.{Frame}
use Rattle.configuration.specs.Config.{Pending, BufferState, Config}
use Rattle.configuration.specs.Layout.{mark, slots, nine, task_slots, buffer_bytes, all_bytes, written}
use Rattle.configuration.specs.Reading.{frame_from, unless, unslots, task_from, untasks, buffer_from, unbuffers, decoded}
use Rattle.configuration.specs.Lawful.{Each, none, also, RangedFrame, RangedBuffer, InRange, RoomyTask, RoomyBuffer, InSpace}
use Rattle.configuration.specs.Bytes.{each_reverse, each_weaker, slots_long, nine_long, buffer_long}

-- A frame whose place + 1 is a byte.
abbrev pub Low : Frame → Type 0
Low f = f.place < 255

pub ranged_low : (t : Table) → Sound t → (f : Frame) → RangedFrame t f → Low f
ranged_low t s f r = omega (arith, s.most_places)

unless_false : {A : Type 0} (b : Bool) (x y : A) (xs ys : List A) → b ≡ false → x ≡ y → xs ≡ ys → unless b x xs ≡ y ∷ ys
unless_false b x y xs ys e p q = rw e (ap₂ ◌∷◌ p q)

mark_some : (f : Frame) → eqb (mark f) 0 ≡ false
mark_some f = ne_eqb (mark f) 0 (λ e. omega arith)

mark_told : (f : Frame) (bs : List ℕ) → Low f → frame_from (mark f ∷ f.l ∷ f.level ∷ bs) ≡ f
mark_told f bs h = ap (λ (n : ℕ). record { place = n; l = f.l; level = f.level }) place
  where
    place : mark f - 1 ≡ f.place
    place = omega arith

-- Frames read back are those that were written.
pub unslots_slots : (n : ℕ) {fs : List Frame} → Each Low fs → length fs ≤ n → (rest : List ℕ) → unslots n (slots n fs ++ rest) ≡ fs
unfolding slots unslots
unslots_slots zero none h rest = refl
unslots_slots zero (also p ps) h rest = absurd (omega arith)
unslots_slots (suc n) none h rest = refl
unslots_slots (suc n) (also {x = f} {xs = fs} p ps) h rest = unless_false (eqb (mark f) 0) _ f _ fs (mark_some f) (mark_told f (slots n fs ++ rest) p) (unslots_slots n ps (omega arith) rest)

-- Tasks.
pub task_nine : {u : Pending} → Each Low u → length u ≤ 3 → (rest : List ℕ) → task_from (nine u ++ rest) ≡ u
unfolding nine task_from
task_nine {u} ps h rest = ap reverse (unslots_slots 3 (each_reverse ps) (subst (λ (n : ℕ). n ≤ 3) (sym (length-reverse u)) h) rest) ∙ reverse-reverse u

some_first : (fs : List Frame) (rest : List ℕ) → 1 ≤ length fs → eqb (get_or (slots 3 fs ++ rest) 0 0) 0 ≡ false
unfolding slots
some_first [] rest h = absurd (omega arith)
some_first (f ∷ fs) rest h = mark_some f

nine_first : (u : Pending) (rest : List ℕ) → 1 ≤ length u → eqb (get_or (nine u ++ rest) 0 0) 0 ≡ false
unfolding nine
nine_first u rest h = some_first (reverse u) rest (subst (λ (n : ℕ). 1 ≤ n) (sym (length-reverse u)) h)

untasks_more : (n : ℕ) {u : Pending} (us : List Pending) (bs : List ℕ) → Each Low u → RoomyTask u → untasks n bs ≡ us → untasks (suc n) (nine u ++ bs) ≡ u ∷ us
unfolding untasks
untasks_more n {u} us bs p q e = unless_false _ _ u _ us (nine_first u bs q.least) (task_nine p q.most bs) (ap (untasks n) (drop_at (nine u) bs 9 (nine_long u)) ∙ e)

pub untasks_slots : (n : ℕ) {us : List Pending} → Each (Each Low) us → Each RoomyTask us → length us ≤ n → (rest : List ℕ) → untasks n (task_slots n us ++ rest) ≡ us
unfolding task_slots untasks nine slots
untasks_slots zero none none h rest = refl
untasks_slots zero (also p ps) (also q qs) h rest = absurd (omega arith)
untasks_slots (suc n) none none h rest = refl
untasks_slots (suc n) (also {x = u} {xs = us} p ps) (also q qs) h rest = ap (untasks (suc n)) (append_assoc (nine u) (task_slots n us) rest) ∙ untasks_more n us (task_slots n us ++ rest) p q (untasks_slots n ps qs (omega arith) rest)

-- Buffers.
pub record LowBuffer (b : BufferState) : Type 0 where
  pub stack : Each Low b.stack
  pub pending : Each (Each Low) b.pending

pub buffer_told : (b : BufferState) → LowBuffer b → RoomyBuffer b → (rest : List ℕ) → buffer_from (buffer_bytes b ++ rest) ≡ b
unfolding buffer_bytes buffer_from
buffer_told b w r rest = ap (λ (bs : List ℕ). buffer_from bs) (append_assoc frames tasks rest) ∙ ap₂ (λ (fs : List Frame) (us : List Pending). record { stack = fs; pending = us }) stack pending
  where
    frames : List ℕ
    frames = slots 8 (reverse b.stack)

    tasks : List ℕ
    tasks = task_slots 6 b.pending

    stack : reverse (unslots 8 (frames ++ (tasks ++ rest))) ≡ b.stack
    stack = ap reverse (unslots_slots 8 (each_reverse w.stack) (subst (λ (n : ℕ). n ≤ 8) (sym (length-reverse b.stack)) r.stack) (tasks ++ rest)) ∙ reverse-reverse b.stack

    pending : untasks 6 (drop 24 (frames ++ (tasks ++ rest))) ≡ b.pending
    pending = ap (untasks 6) (drop_at frames (tasks ++ rest) 24 (slots_long 8 (reverse b.stack))) ∙ untasks_slots 6 w.pending r.tasks r.pending rest

pub buffers_told : {bs : List BufferState} → Each LowBuffer bs → Each RoomyBuffer bs → unbuffers (length bs) (all_bytes bs) ≡ bs
unfolding all_bytes unbuffers
buffers_told none none = refl
buffers_told (also {x = b} {xs = bs} p ps) (also q qs) = ap₂ ◌∷◌ (buffer_told b p q (all_bytes bs)) (ap (unbuffers (length bs)) (drop_at (buffer_bytes b) (all_bytes bs) 78 (buffer_long b)) ∙ buffers_told ps qs)

-- Configurations.
module _ (t : Table) (s : Sound t) where
  ranged_buffer_low : (b : BufferState) → RangedBuffer t b → LowBuffer b
  ranged_buffer_low b r = record {
    stack = each_weaker (ranged_low t s) r.stack;
    pending = each_weaker (λ u. each_weaker (ranged_low t s)) r.pending;
  }

  pub decoded_written : (c : Config) → InRange t c → InSpace c → decoded t (written c) ≡ c
  unfolding decoded written
  decoded_written c r w = ap₂ (λ (gs : List ℕ) (bs : List BufferState). record { active = c.active; globals = gs; buffers = bs }) globals buffers
    where
      l : List ℕ
      l = c.globals ++ all_bytes c.buffers

      globals : take t.globals l ≡ c.globals
      globals = take_at c.globals (all_bytes c.buffers) t.globals r.globals_many

      dropped : drop (1 + t.globals) (c.active ∷ l) ≡ all_bytes c.buffers
      dropped = let e : 1 + t.globals ≡ suc t.globals = omega arith in ap (λ (n : ℕ). drop n (c.active ∷ l)) e ∙ drop_at c.globals (all_bytes c.buffers) t.globals r.globals_many

      buffers : unbuffers t.buffers (drop (1 + t.globals) (c.active ∷ l)) ≡ c.buffers
      buffers = ap₂ unbuffers (sym r.many) dropped ∙ buffers_told (each_weaker ranged_buffer_low r.buffers) w

  -- So what is written tells the configuration.
  pub written_injective : (c d : Config) → InRange t c → InSpace c → InRange t d → InSpace d → written c ≡ written d → c ≡ d
  written_injective c d r w q v e = sym (decoded_written c r w) ∙ (ap (decoded t) e ∙ decoded_written d q v)
