-- The limits that every program keeps. Assumes nothing.
use Rattle.std.specs.Prelude.{◌≡◌, ℕ, zero, suc, ◌<◌, ◌≤◌, Bool, true, false, ◌&&◌, length, Some, None, Option, nat_lt, slice_index_or}
use Rattle.program.specs.declared.variable.Variable.{Variable}
use Rattle.program.specs.declared.variable.Variable.TheVariants.{Global, Local}
use Rattle.program.specs.declared.expression.Expression.{Expression}
use Rattle.program.specs.declared.expression.Expression.TheVariants.{Any, Of}
use Rattle.program.specs.declared.node.Node.{Node}
use Rattle.program.specs.declared.node.Node.TheVariants.{Number, Read, Not, Join}
use Rattle.program.specs.declared.statement.Statement.{Statement}
use Rattle.program.specs.declared.statement.Statement.TheVariants.{Skip, Assume, If, Assign, While, Call, Return, Post, Yield, Zield}
use Rattle.program.specs.Table.{Table, node_at}

-- How deep the nodes of an expression may stand in each other.
abbrev pub deepest : ℕ
deepest = 10

-- A variable that the program has; an expression whose node it has.
abbrev pub has_variable : Table → Variable → Bool
has_variable t (Global g) = nat_lt g t.globals
has_variable t Local = true

abbrev pub has_expression : Table → Expression → Bool
has_expression t Any = true
has_expression t (Of k) = nat_lt k (length t.nodes)

-- A statement whose links, variables, procedure and level the program has.
abbrev pub linked : Table → Statement → Bool
linked t (Skip n) = nat_lt n (length t.places)
linked t (Assume e n) = has_expression t e && nat_lt n (length t.places)
linked t (If e a b) = has_expression t e && (nat_lt a (length t.places) && nat_lt b (length t.places))
linked t (Assign x e n) = has_variable t x && (has_expression t e && nat_lt n (length t.places))
linked t (While e b n) = has_expression t e && (nat_lt b (length t.places) && nat_lt n (length t.places))
linked t (Call x p e n) = has_variable t x && (nat_lt p (length t.procedures) && (has_expression t e && nat_lt n (length t.places)))
linked t (Return e) = has_expression t e
linked t (Post m p e n) = nat_lt m t.levels && (nat_lt p (length t.procedures) && (has_expression t e && nat_lt n (length t.places)))
linked t (Yield n) = nat_lt n (length t.places)
linked t (Zield n) = nat_lt n (length t.places)

-- A node whose number is a value, whose variable the program has, and whose parts are nodes of it.
abbrev pub sound_node : Table → Node → Bool
sound_node t (Number v) = nat_lt v t.values
sound_node t (Read x) = has_variable t x
sound_node t (Not a) = nat_lt a (length t.nodes)
sound_node t (Join o a b) = nat_lt a (length t.nodes) && nat_lt b (length t.nodes)

-- No way down from a node is longer than n nodes.
abbrev pub shallow_node : (ℕ → Bool) → Node → Bool
shallow_node below (Number v) = true
shallow_node below (Read x) = true
shallow_node below (Not a) = below a
shallow_node below (Join o a b) = below a && below b

unfoldable pub shallow : ℕ → Table → ℕ → Bool
shallow zero t k = false
shallow (suc n) t k = shallow_node (shallow n t) (node_at t k)

-- The value of a global at the goal, if one is asked for, is a value.
abbrev pub sound_goal : Table → Option ℕ → Bool
sound_goal t None = true
sound_goal t (Some v) = nat_lt v t.values

-- Every program that exists keeps these limits.
pub record Sound (t : Table) : Type 0 where
  pub least_values : 2 ≤ t.values
  pub most_values : t.values ≤ 16
  pub least_globals : 1 ≤ t.globals
  pub most_globals : t.globals ≤ 8
  pub least_buffers : 1 ≤ t.buffers
  pub most_buffers : t.buffers ≤ 3
  pub least_levels : 1 ≤ t.levels
  pub most_levels : t.levels ≤ 4
  pub most_places : length t.places ≤ 200
  pub most_procedures : length t.procedures ≤ 16
  pub most_nodes : length t.nodes ≤ 4096
  pub all_mains : length t.mains ≡ t.buffers
  pub all_start : length t.start ≡ t.globals
  pub all_goal : length t.goal ≡ t.globals
  pub links : (k : ℕ) (d : Statement) → k < length t.places → linked t (slice_index_or t.places k d) ≡ true
  pub parts : (k : ℕ) (d : Node) → k < length t.nodes → sound_node t (slice_index_or t.nodes k d) ≡ true
  pub depths : (k : ℕ) → k < length t.nodes → shallow deepest t k ≡ true
  pub procedures : (k d : ℕ) → k < length t.procedures → slice_index_or t.procedures k d < length t.places
  pub mains : (k d : ℕ) → k < length t.mains → slice_index_or t.mains k d < length t.places
  pub start : (k d : ℕ) → k < length t.start → slice_index_or t.start k d < t.values
  pub goal : (k : ℕ) (d : Option ℕ) → k < length t.goal → sound_goal t (slice_index_or t.goal k d) ≡ true
