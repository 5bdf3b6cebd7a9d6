-- Expressions of a program have values of the program. Assumes nothing.
use Rattle.std.specs.Prelude.{◌≡◌, ℕ, zero, suc, ◌+◌, ◌-◌, ◌<◌, ◌≤◌, Bool, true, false, not, ◌&&◌, ◌||◌, List, length, ◌==◌, nat_lt, slice_index}
use Rattle.std.proofs.Common.{mod-lt, arith}
use Rattle.std.proofs.lemmas.Bool.{ltb-true}
use Rattle.program.specs.declared.variable.Variable.{Variable}
use Rattle.program.specs.declared.variable.Variable.TheVariants.{Global, Local}
use Rattle.program.specs.declared.operator.Operator.{Operator}
use Rattle.program.specs.declared.operator.Operator.TheVariants.{Plus, Minus, Equal, Less, And, Or}
use Rattle.program.specs.declared.expression.Expression.{Expression}
use Rattle.program.specs.declared.expression.Expression.TheVariants.{Any, Of}
use Rattle.program.specs.declared.node.Node.{Node}
use Rattle.program.specs.declared.node.Node.TheVariants.{Number, Read, Not, Join}
use Rattle.program.specs.Table.{Table, node_at}
use Rattle.program.specs.Limits.{Sound, sound_node, has_expression, deepest}
use Rattle.program.specs.Values.{true_value, flag, joined, held, node_worth, worth, value, ValueOf}

flag_small : (V : ℕ) → 2 ≤ V → (b : Bool) → flag b < V
flag_small V h true = omega arith
flag_small V h false = omega arith

joined_small : (V : ℕ) → 2 ≤ V → (o : Operator) (a b : ℕ) → joined V o a b < V
joined_small V h Plus a b = mod-lt (a + b) (omega arith)
joined_small V h Minus a b = mod-lt ((a + V) - b) (omega arith)
joined_small V h Equal a b = flag_small V h (a == b)
joined_small V h Less a b = flag_small V h (nat_lt a b)
joined_small V h And a b = flag_small V h (true_value a && true_value b)
joined_small V h Or a b = flag_small V h (true_value a || true_value b)

-- A variable is small where the globals and the frame's own value are.
pub held_small : (V : ℕ) (globals : List ℕ) (l : ℕ) → ((i : ℕ) → slice_index globals i < V) → l < V → (x : Variable) → held globals l x < V
held_small V globals l g h (Global i) = g i
held_small V globals l g h Local = h

node_small : (t : Table) (globals : List ℕ) (l : ℕ) (part : ℕ → ℕ) → 2 ≤ t.values → ((i : ℕ) → slice_index globals i < t.values) → l < t.values → (m : Node) → sound_node t m ≡ true → node_worth t.values globals l part m < t.values
node_small t globals l part two g h (Number v) e = ltb-true v t.values e
node_small t globals l part two g h (Read x) e = held_small t.values globals l g h x
node_small t globals l part two g h (Not a) e = flag_small t.values two (not (true_value (part a)))
node_small t globals l part two g h (Join o a b) e = joined_small t.values two o (part a) (part b)

worth_small : (n : ℕ) (t : Table) (globals : List ℕ) (l k : ℕ) → Sound t → ((i : ℕ) → slice_index globals i < t.values) → l < t.values → k < length t.nodes → worth n t globals l k < t.values
unfolding worth node_at
worth_small zero t globals l k s g h j = omega (arith, s.least_values)
worth_small (suc n) t globals l k s g h j = node_small t globals l (worth n t globals l) s.least_values g h (node_at t k) (s.parts k (Number 0) j)

pub value_small : (t : Table) (globals : List ℕ) (l k : ℕ) → Sound t → ((i : ℕ) → slice_index globals i < t.values) → l < t.values → k < length t.nodes → value t globals l k < t.values
unfolding value
value_small t globals l k s g h j = worth_small deepest t globals l k s g h j

pub value_of_small : (t : Table) (globals : List ℕ) (l : ℕ) (e : Expression) (v : ℕ) → Sound t → ((i : ℕ) → slice_index globals i < t.values) → l < t.values → has_expression t e ≡ true → ValueOf t globals l e v → v < t.values
value_of_small t globals l Any v s g h has is = is
value_of_small t globals l (Of k) v s g h has is = rw is (value_small t globals l k s g h (ltb-true k (length t.nodes) has))
