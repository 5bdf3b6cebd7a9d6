-- What the code's configurations mean, part by part.
use Rattle.std.proofs.Common.{◌≡◌, ℕ, zero, suc, ◌-◌, ◌<◌, ◌≤◌, List, [], ◌∷◌, map, length, get_or, take, set, sym, refl, ap, ◌∙◌, arith}
use Rattle.std.proofs.lemmas.List.{length-map, length-take, get_or-map, get_or-take, get_or_past, map-set, take-map, take_all}
use Rattle.program.specs.Table.{Table}
use Rattle.configuration.specs.declared.buffer.Buffer.{Buffer}
use Rattle.configuration.specs.declared.configuration.Configuration.{Configuration}
use Rattle.configuration.specs.Config.{BufferState, Config, no_buffer, buffer_at}
use Rattle.configuration.specs.Meaning.{state_of, config_of}
use Rattle.configuration.specs.Ops.{changed}
use Rattle.configuration.specs.Start.{start_buffer, start_config}

take_of_set : {X : Type 0} (n i : ℕ) (xs : List X) (x : X) → take n (set xs i x) ≡ set (take n xs) i x
take_of_set zero i xs x = refl
take_of_set (suc n) i [] x = refl
take_of_set (suc n) zero (y ∷ xs) x = refl
take_of_set (suc n) (suc i) (y ∷ xs) x = ap (λ ys. y ∷ ys) (take_of_set n i xs x)

least_buffers : (bs : List Buffer) (n : ℕ) → length (map state_of (take n bs)) ≤ n
least_buffers bs n = omega (arith, length-map (take n bs) state_of, length-take n bs)

-- Another buffer in place of the active one.
pub changed_is : (t : Table) (c : Configuration) (a : ℕ) (gs : List ℕ) (bs : List Buffer) (b : Buffer) → bs ≡ set c.buffers c.active b → config_of t (record { active = a; globals = gs; buffers = bs }) ≡ changed (config_of t c) a (take t.globals gs) (state_of b)
changed_is t c a gs bs b h =
    let f : map state_of (take t.buffers bs) ≡ map state_of (take t.buffers (set c.buffers c.active b)) = ap (λ (xs : List Buffer). map state_of (take t.buffers xs)) h in
    let e = ap (map state_of) (take_of_set t.buffers c.active c.buffers b) ∙ map-set state_of (take t.buffers c.buffers) c.active b in
    let whole : List BufferState → Config = λ xs. record { active = a; globals = take t.globals gs; buffers = xs } in
    ap whole (f ∙ e)

-- The buffer of a number, which may be past the last one.
pub buffer_some : (t : Table) (c : Configuration) (n k : ℕ) (b : BufferState) → t.buffers ≡ n → k < n → b ≡ get_or (map state_of c.buffers) k no_buffer → b ≡ buffer_at (config_of t c) k
buffer_some t c n k b e lt h =
    let m = take-map state_of t.buffers c.buffers in
    let g = get_or-take t.buffers (map state_of c.buffers) k no_buffer (omega arith) in
    h ∙ (sym g ∙ ap (λ (bs : List BufferState). get_or bs k no_buffer) m)

pub buffer_none : (t : Table) (c : Configuration) (n k : ℕ) (b : BufferState) → t.buffers ≡ n → n ≤ k → b ≡ no_buffer → b ≡ buffer_at (config_of t c) k
buffer_none t c n k b e le h =
    h ∙ sym (get_or_past (map state_of (take t.buffers c.buffers)) k no_buffer (omega (arith, least_buffers c.buffers t.buffers)))

pub held_some : (bs : List Buffer) (k : ℕ) (d : Buffer) → k < length bs → state_of (get_or bs k d) ≡ get_or (map state_of bs) k no_buffer
held_some bs k d h = sym (get_or-map state_of bs k d no_buffer h)

pub held_none : (bs : List Buffer) (k : ℕ) (b : BufferState) → length bs ≤ k → b ≡ no_buffer → b ≡ get_or (map state_of bs) k no_buffer
held_none bs k b le h = h ∙ sym (get_or_past (map state_of bs) k no_buffer (omega (arith, length-map bs state_of)))

-- The start, with up to three buffers.
begun_all : (ms : List ℕ) (a b d : Buffer) → length ms ≤ 3 → (0 < length ms → state_of a ≡ start_buffer (get_or ms 0 0)) → (1 < length ms → state_of b ≡ start_buffer (get_or ms 1 0)) → (2 < length ms → state_of d ≡ start_buffer (get_or ms 2 0)) → map state_of (take (length ms) (a ∷ b ∷ d ∷ [])) ≡ map start_buffer ms
begun_all [] a b d h p q r = refl
begun_all (k ∷ []) a b d h p q r = ap (λ (x : BufferState). x ∷ []) (p (omega arith))
begun_all (k ∷ m ∷ []) a b d h p q r =
    let e = p (omega arith) in
    let f = q (omega arith) in
    ap (λ (x : BufferState). x ∷ state_of b ∷ []) e ∙ ap (λ (x : BufferState). start_buffer k ∷ x ∷ []) f
begun_all (k ∷ m ∷ n ∷ []) a b d h p q r =
    let e = p (omega arith) in
    let f = q (omega arith) in
    let g = r (omega arith) in
    ap (λ (x : BufferState). x ∷ state_of b ∷ state_of d ∷ []) e ∙ (ap (λ (x : BufferState). start_buffer k ∷ x ∷ state_of d ∷ []) f ∙ ap (λ (x : BufferState). start_buffer k ∷ start_buffer m ∷ x ∷ []) g)
begun_all (k ∷ m ∷ n ∷ o ∷ ms) a b d h p q r = let bad : ⊥ = omega arith in elim bad [ ]

pub started : (t : Table) (vs ms gs : List ℕ) (a b d : Buffer) → t.start ≡ vs → t.mains ≡ ms → t.globals ≡ length vs → t.buffers ≡ length ms → t.globals ≤ 8 → t.buffers ≤ 3 → (length vs ≤ 8 → take (length vs) gs ≡ vs) → (0 < length ms → state_of a ≡ start_buffer (get_or ms 0 0)) → (1 < length ms → state_of b ≡ start_buffer (get_or ms 1 0)) → (2 < length ms → state_of d ≡ start_buffer (get_or ms 2 0)) → config_of t (record { active = 0; globals = gs; buffers = a ∷ b ∷ d ∷ [] }) ≡ start_config t
unfolding start_config
started t vs ms gs a b d start mains globals buffers eight three values p q r =
    let whole : List ℕ → List BufferState → Config = λ xs bs. record { active = 0; globals = xs; buffers = bs } in
    let g : take t.globals gs ≡ t.start = ap (λ (n : ℕ). take n gs) globals ∙ (values (omega arith) ∙ sym start) in
    let u : map state_of (take t.buffers (a ∷ b ∷ d ∷ [])) ≡ map start_buffer t.mains =
    ap (λ (n : ℕ). map state_of (take n (a ∷ b ∷ d ∷ []))) buffers ∙ (begun_all ms a b d (omega arith) p q r ∙ sym (ap (map start_buffer) mains))
    in
    ap (λ (xs : List ℕ). whole xs (map state_of (take t.buffers (a ∷ b ∷ d ∷ [])))) g ∙ ap (λ (bs : List BufferState). whole t.start bs) u

-- The first of eight globals, for any count.
pub globals_below : (gs : List ℕ) (count end : ℕ) → end ≡ count → take (end - 0) gs ≡ take count gs
globals_below gs count end e = ap (λ (n : ℕ). take n gs) (omega arith)

pub globals_all : (gs : List ℕ) (count end : ℕ) → length gs ≤ end → end ≤ count → take (end - 0) gs ≡ take count gs
globals_all gs count end h le = take_all (end - 0) gs (omega arith) ∙ sym (take_all count gs (omega arith))
