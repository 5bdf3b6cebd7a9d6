-- The first thing in tables that is outside the limits of a program. Assumes nothing.
use Rattle.std.specs.Prelude.{ℕ, zero, suc, Bool, cond, ◌&&◌, length, Some, None, Option, ◌==◌, nat_le, nat_lt, slice_index, slice_index_or}
use Rattle.program.specs.declared.flaw.Flaw.{Flaw}
use Rattle.program.specs.declared.flaw.Flaw.TheVariants.{Values, Globals, Buffers, Levels, Places, Procedures, Nodes, Mains, Start, Goal, Place, Node, Depth, Procedure, Main, StartValue, GoalValue}
use Rattle.program.specs.Table.{Table, statement_at, entry, node_at}
use Rattle.program.specs.Limits.{linked, sound_node, shallow, deepest, sound_goal}

-- No flaw where a test holds, and the first of two flaws.
abbrev pub unless : Bool → Flaw → Option Flaw
unless fine f = cond fine None (Some f)

abbrev pub first_of : Option Flaw → Option Flaw → Option Flaw
first_of None g = g
first_of (Some f) g = Some f

-- The flaw of the first of n numbers, from i on, that fails a test.
unfoldable pub first_bad : (ℕ → Bool) → (ℕ → Flaw) → ℕ → ℕ → Option Flaw
first_bad fine f i zero = None
first_bad fine f i (suc n) = cond (fine i) (first_bad fine f (suc i) n) (Some (f i))

abbrev pub within : ℕ → ℕ → ℕ → Bool
within least n most = nat_le least n && nat_le n most

-- How many values, globals, buffers and levels there are.
abbrev pub size_flaw : Table → Option Flaw
size_flaw t = first_of (unless (within 2 t.values 16) Values) (first_of (unless (within 1 t.globals 8) Globals) (first_of (unless (within 1 t.buffers 3) Buffers) (unless (within 1 t.levels 4) Levels)))

-- How long the tables are.
abbrev pub most_flaw : Table → Option Flaw
most_flaw t = first_of (unless (nat_le (length t.places) 200) Places) (first_of (unless (nat_le (length t.procedures) 16) Procedures) (unless (nat_le (length t.nodes) 4096) Nodes))

abbrev pub each_flaw : Table → Option Flaw
each_flaw t = first_of (unless (length t.mains == t.buffers) Mains) (first_of (unless (length t.start == t.globals) Start) (unless (length t.goal == t.globals) Goal))

-- What the tables hold.
abbrev pub fine_place : Table → ℕ → Bool
fine_place t k = linked t (statement_at t k)

abbrev pub fine_node : Table → ℕ → Bool
fine_node t k = sound_node t (node_at t k)

abbrev pub fine_depth : Table → ℕ → Bool
fine_depth t k = shallow deepest t k

abbrev pub fine_procedure : Table → ℕ → Bool
fine_procedure t k = nat_lt (entry t k) (length t.places)

abbrev pub fine_main : Table → ℕ → Bool
fine_main t k = nat_lt (slice_index t.mains k) (length t.places)

abbrev pub fine_start : Table → ℕ → Bool
fine_start t k = nat_lt (slice_index t.start k) t.values

abbrev pub fine_goal : Table → ℕ → Bool
fine_goal t k = sound_goal t (slice_index_or t.goal k None)

abbrev pub place_flaw : Table → Option Flaw
place_flaw t = first_bad (fine_place t) Place 0 (length t.places)

abbrev pub node_flaw : Table → Option Flaw
node_flaw t = first_bad (fine_node t) Node 0 (length t.nodes)

abbrev pub depth_flaw : Table → Option Flaw
depth_flaw t = first_bad (fine_depth t) Depth 0 (length t.nodes)

abbrev pub procedure_flaw : Table → Option Flaw
procedure_flaw t = first_bad (fine_procedure t) Procedure 0 (length t.procedures)

abbrev pub main_flaw : Table → Option Flaw
main_flaw t = first_bad (fine_main t) Main 0 (length t.mains)

abbrev pub start_flaw : Table → Option Flaw
start_flaw t = first_bad (fine_start t) StartValue 0 (length t.start)

abbrev pub goal_flaw : Table → Option Flaw
goal_flaw t = first_bad (fine_goal t) GoalValue 0 (length t.goal)

abbrev pub code_flaw : Table → Option Flaw
code_flaw t = first_of (place_flaw t) (first_of (node_flaw t) (depth_flaw t))

abbrev pub list_flaw : Table → Option Flaw
list_flaw t = first_of (procedure_flaw t) (first_of (main_flaw t) (first_of (start_flaw t) (goal_flaw t)))

-- The first flaw: sizes, lengths, then what the tables hold, table by table.
unfoldable pub flaw : Table → Option Flaw
flaw t = first_of (size_flaw t) (first_of (most_flaw t) (first_of (each_flaw t) (first_of (code_flaw t) (list_flaw t))))
