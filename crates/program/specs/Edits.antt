-- How tables are filled. What has no room is left out, and the tables stay as they are. Assumes nothing.
use Rattle.std.specs.Prelude.{ℕ, Bool, cond, List, [], ◌∷◌, ◌++◌, length, Some, None, Option, nat_lt, slice_set}
use Rattle.program.specs.declared.node.Node.{Node}
use Rattle.program.specs.declared.statement.Statement.{Statement}
use Rattle.program.specs.Table.{Table}

-- Tables with nothing in them.
abbrev pub empty : Table
empty = record { values = 0; globals = 0; buffers = 0; levels = 0; places = []; nodes = []; procedures = []; mains = []; start = []; goal = [] }

-- There is room for one more; its number, if there is; the list with it.
abbrev pub has_room : {X : Type 0} → List X → ℕ → Bool
has_room xs most = nat_lt (length xs) most

abbrev pub next_number : {X : Type 0} → List X → ℕ → Option ℕ
next_number xs most = cond (has_room xs most) (Some (length xs)) None

abbrev pub and_one : {X : Type 0} → List X → ℕ → X → List X
and_one xs most x = cond (has_room xs most) (xs ++ x ∷ []) xs

abbrev pub with_sizes : Table → ℕ → ℕ → ℕ → ℕ → Table
with_sizes t values globals buffers levels = record { values = values; globals = globals; buffers = buffers; levels = levels; places = t.places; nodes = t.nodes; procedures = t.procedures; mains = t.mains; start = t.start; goal = t.goal }

abbrev pub with_places : Table → List Statement → Table
with_places t places = record { values = t.values; globals = t.globals; buffers = t.buffers; levels = t.levels; places = places; nodes = t.nodes; procedures = t.procedures; mains = t.mains; start = t.start; goal = t.goal }

abbrev pub with_nodes : Table → List Node → Table
with_nodes t nodes = record { values = t.values; globals = t.globals; buffers = t.buffers; levels = t.levels; places = t.places; nodes = nodes; procedures = t.procedures; mains = t.mains; start = t.start; goal = t.goal }

abbrev pub with_procedures : Table → List ℕ → Table
with_procedures t procedures = record { values = t.values; globals = t.globals; buffers = t.buffers; levels = t.levels; places = t.places; nodes = t.nodes; procedures = procedures; mains = t.mains; start = t.start; goal = t.goal }

abbrev pub with_mains : Table → List ℕ → Table
with_mains t mains = record { values = t.values; globals = t.globals; buffers = t.buffers; levels = t.levels; places = t.places; nodes = t.nodes; procedures = t.procedures; mains = mains; start = t.start; goal = t.goal }

abbrev pub with_start : Table → List ℕ → Table
with_start t start = record { values = t.values; globals = t.globals; buffers = t.buffers; levels = t.levels; places = t.places; nodes = t.nodes; procedures = t.procedures; mains = t.mains; start = start; goal = t.goal }

abbrev pub with_goal : Table → List (Option ℕ) → Table
with_goal t goal = record { values = t.values; globals = t.globals; buffers = t.buffers; levels = t.levels; places = t.places; nodes = t.nodes; procedures = t.procedures; mains = t.mains; start = t.start; goal = goal }

-- One more entry at the end of a table, where there is room.
unfoldable pub with_place : Table → Statement → Table
with_place t s = with_places t (and_one t.places 200 s)

unfoldable pub with_node : Table → Node → Table
with_node t n = with_nodes t (and_one t.nodes 4096 n)

unfoldable pub with_procedure : Table → ℕ → Table
with_procedure t place = with_procedures t (and_one t.procedures 16 place)

unfoldable pub with_main : Table → ℕ → Table
with_main t place = with_mains t (and_one t.mains 3 place)

unfoldable pub with_start_value : Table → ℕ → Table
with_start_value t v = with_start t (and_one t.start 8 v)

unfoldable pub with_goal_value : Table → Option ℕ → Table
with_goal_value t v = with_goal t (and_one t.goal 8 v)

-- Another statement at a place, where there is one.
unfoldable pub with_statement : Table → ℕ → Statement → Table
with_statement t k s = with_places t (slice_set t.places k s)
