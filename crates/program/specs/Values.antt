-- Values, and what expressions are worth. Assumes nothing.
use Rattle.std.specs.Prelude.{◌≡◌, ℕ, zero, suc, ◌+◌, ◌-◌, ◌%◌, ◌<◌, Bool, true, false, not, ◌&&◌, ◌||◌, List, ◌==◌, nat_lt, slice_index}
use Rattle.program.specs.declared.variable.Variable.{Variable}
use Rattle.program.specs.declared.variable.Variable.TheVariants.{Global, Local}
use Rattle.program.specs.declared.operator.Operator.{Operator}
use Rattle.program.specs.declared.operator.Operator.TheVariants.{Plus, Minus, Equal, Less, And, Or}
use Rattle.program.specs.declared.expression.Expression.{Expression}
use Rattle.program.specs.declared.expression.Expression.TheVariants.{Any, Of}
use Rattle.program.specs.declared.node.Node.{Node}
use Rattle.program.specs.declared.node.Node.TheVariants.{Number, Read, Not, Join}
use Rattle.program.specs.Table.{Table, node_at}
use Rattle.program.specs.Limits.{deepest}

-- 0 is false, every other value is true.
abbrev pub true_value : ℕ → Bool
true_value v = nat_lt 0 v

abbrev pub flag : Bool → ℕ
flag true = 1
flag false = 0

-- Sum and difference of two of V values.
abbrev pub sum : ℕ → ℕ → ℕ → ℕ
sum V a b = (a + b) % V

abbrev pub difference : ℕ → ℕ → ℕ → ℕ
difference V a b = ((a + V) - b) % V

abbrev pub joined : ℕ → Operator → ℕ → ℕ → ℕ
joined V Plus a b = sum V a b
joined V Minus a b = difference V a b
joined V Equal a b = flag (a == b)
joined V Less a b = flag (nat_lt a b)
joined V And a b = flag (true_value a && true_value b)
joined V Or a b = flag (true_value a || true_value b)

-- The value of a variable, by the globals and the frame's own value.
abbrev pub held : List ℕ → ℕ → Variable → ℕ
held globals l (Global g) = slice_index globals g
held globals l Local = l

-- What a node is worth, by what its parts are worth.
abbrev pub node_worth : ℕ → List ℕ → ℕ → (ℕ → ℕ) → Node → ℕ
node_worth V globals l part (Number v) = v
node_worth V globals l part (Read x) = held globals l x
node_worth V globals l part (Not a) = flag (not (true_value (part a)))
node_worth V globals l part (Join o a b) = joined V o (part a) (part b)

-- What a node is worth, seen n nodes deep; in a program no way down is longer than `deepest`.
unfoldable pub worth : ℕ → Table → List ℕ → ℕ → ℕ → ℕ
worth zero t globals l k = 0
worth (suc n) t globals l k = node_worth t.values globals l (worth n t globals l) (node_at t k)

unfoldable pub value : Table → List ℕ → ℕ → ℕ → ℕ
value t globals l k = worth deepest t globals l k

-- v is a value of the expression: `*` has every value, every other expression has one.
abbrev pub ValueOf : Table → List ℕ → ℕ → Expression → ℕ → Type 0
ValueOf t globals l Any v = v < t.values
ValueOf t globals l (Of k) v = v ≡ value t globals l k

-- The expression may be true, and may be false. Of two values and more, `*` may be either.
abbrev pub may_be_true : Table → List ℕ → ℕ → Expression → Bool
may_be_true t globals l Any = true
may_be_true t globals l (Of k) = true_value (value t globals l k)

abbrev pub may_be_false : Table → List ℕ → ℕ → Expression → Bool
may_be_false t globals l Any = true
may_be_false t globals l (Of k) = not (true_value (value t globals l k))
