-- What the counter means as a machine. Assumes nothing.
use Rattle.std.specs.Prelude.{ℕ, ◌+◌, ◌-◌, min, Bool, ◌&&◌, List, [], ◌∷◌, map, ◌==◌, nat_lt, slice_index}
use Rattle.std.specs.List.{range_with_len}
use Rattle.machine.specs.System.{System, Step}

-- The value that a line holds.
abbrev pub value : List ℕ → ℕ
value l = slice_index l 0

-- Step k adds k + 1; its kind is 0 and its delay k.
abbrev pub climb : ℕ → ℕ → Step
climb v k = record { kind = 0; delay = k; next = (v + k + 1) ∷ [] }

-- How many steps there are at a value: those whose sum stays at most the limit.
abbrev pub climbs : ℕ → ℕ → ℕ → ℕ
climbs limit steps v = min steps (limit - v)

-- The machine. Where its limit is strict, a value at which a step was left off is tight.
abbrev pub counter : ℕ → ℕ → ℕ → Bool → System
counter limit goal steps strict = record {
  width = 1;
  start = 0 ∷ [];
  steps = λ l. map (climb (value l)) (range_with_len 0 (climbs limit steps (value l)));
  goal = λ l. (value l == goal);
  tight = λ l. strict && nat_lt (limit - value l) steps;
}
