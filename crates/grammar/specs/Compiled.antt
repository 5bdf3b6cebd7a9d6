-- The program that a source stands for: places with their links, and nodes of expressions. Assumes nothing.
use Rattle.std.specs.Prelude.{ℕ, suc, ◌+◌, cond, List, [], ◌∷◌, ◌++◌, map, Some, None, Option}
use Rattle.std.specs.Str.{bytes_eq}
use Rattle.program.specs.declared.expression.Expression.{Expression}
use Rattle.program.specs.declared.expression.Expression.TheVariants.{Any, Of}
use Rattle.program.specs.declared.node.Node.{Node}
use Rattle.program.specs.declared.node.Node.TheVariants.{Number, Read, Not, Join}
use Rattle.program.specs.declared.statement.Statement.{Statement}
use Rattle.program.specs.declared.statement.Statement.TheVariants.{Skip, Assume, If, Assign, While, Call, Return, Post, Yield, Zield}
use Rattle.program.specs.Table.{Table}
use Rattle.grammar.specs.Tokens.{value}
use Rattle.grammar.specs.Sources.{Term, numeral, variable, negated, single, double, Sum, one, two, Expr, star, sum, Plain, skips, assigns, assumes, calls, returns, posts, yields, zields, Block, stop, plain, branch, loop, size, Procedure, Main, Aim, exactly, anything, Source, procedure_places}
use Rattle.grammar.specs.Uses.{names_of}

-- How many nodes a term has, the number of its own node where its nodes begin at n, and its nodes: parts first.
abbrev pub term_count : Term → ℕ
term_count (numeral ds) = 1
term_count (variable v) = 1
term_count (negated t) = suc (term_count t)
term_count (single t) = term_count t
term_count (double t o u) = suc (term_count t + term_count u)

abbrev pub term_node : ℕ → Term → ℕ
term_node n (numeral ds) = n
term_node n (variable v) = n
term_node n (negated t) = n + term_count t
term_node n (single t) = term_node n t
term_node n (double t o u) = n + term_count t + term_count u

abbrev pub term_nodes : ℕ → Term → List Node
term_nodes n (numeral ds) = Number (value ds) ∷ []
term_nodes n (variable v) = Read v ∷ []
term_nodes n (negated t) = term_nodes n t ++ (Not (term_node n t) ∷ [])
term_nodes n (single t) = term_nodes n t
term_nodes n (double t o u) = term_nodes n t ++ (term_nodes (n + term_count t) u ++ (Join o (term_node n t) (term_node (n + term_count t) u) ∷ []))

-- The same of expressions; `*` has no node.
abbrev pub sum_term : Sum → Term
sum_term (one t) = t
sum_term (two t o u) = double t o u

abbrev pub expr_count : Expr → ℕ
expr_count star = 0
expr_count (sum s) = term_count (sum_term s)

abbrev pub expr_nodes : ℕ → Expr → List Node
expr_nodes n star = []
expr_nodes n (sum s) = term_nodes n (sum_term s)

abbrev pub expression : ℕ → Expr → Expression
expression n star = Any
expression n (sum s) = Of (term_node n (sum_term s))

-- The nodes of statements and blocks, in the order of the text.
abbrev pub plain_expr : Plain → Expr
plain_expr skips = star
plain_expr (assigns v e) = e
plain_expr (assumes e) = e
plain_expr (calls v p e) = e
plain_expr (returns e) = e
plain_expr (posts m p e) = e
plain_expr yields = star
plain_expr zields = star

abbrev pub block_count : Block → ℕ
block_count stop = 0
block_count (plain s rest) = expr_count (plain_expr s) + block_count rest
block_count (branch e s u rest) = expr_count e + block_count s + block_count u + block_count rest
block_count (loop e s rest) = expr_count e + block_count s + block_count rest

abbrev pub block_nodes : ℕ → Block → List Node
block_nodes n stop = []
block_nodes n (plain s rest) = expr_nodes n (plain_expr s) ++ block_nodes (n + expr_count (plain_expr s)) rest
block_nodes n (branch e s u rest) = expr_nodes n e ++ (block_nodes (n + expr_count e) s ++ (block_nodes (n + expr_count e + block_count s) u ++ block_nodes (n + expr_count e + block_count s + block_count u) rest))
block_nodes n (loop e s rest) = expr_nodes n e ++ (block_nodes (n + expr_count e) s ++ block_nodes (n + expr_count e + block_count s) rest)

-- The number of a procedure: how many are declared before it.
abbrev pub number_of : List ℕ → List (List ℕ) → ℕ
number_of w [] = 0
number_of w (u ∷ us) = cond (bytes_eq w u) 0 (suc (number_of w us))

-- Where a block at a place begins: an empty one leads on to what is executed after it.
abbrev pub first_place : Block → ℕ → ℕ → ℕ
first_place stop place exit = exit
first_place (plain s rest) place exit = place
first_place (branch e s u rest) place exit = place
first_place (loop e s rest) place exit = place

-- A statement without blocks, with the place that follows it.
abbrev pub plain_row : List (List ℕ) → ℕ → ℕ → Plain → Statement
plain_row names n next skips = Skip next
plain_row names n next (assigns v e) = Assign v (expression n e) next
plain_row names n next (assumes e) = Assume (expression n e) next
plain_row names n next (calls v p e) = Call v (number_of p names) (expression n e) next
plain_row names n next (returns e) = Return (expression n e)
plain_row names n next (posts m p e) = Post (value m) (number_of p names) (expression n e) next
plain_row names n next yields = Yield next
plain_row names n next zields = Zield next

-- The statements of a block at a place, with its nodes from n on, and the place that is executed after it: after the
-- blocks of an if what follows the if, after the block of a while the while itself.
abbrev pub block_rows : List (List ℕ) → ℕ → Block → ℕ → ℕ → List Statement
block_rows names n stop place exit = []
block_rows names n (plain s rest) place exit = plain_row names n (first_place rest (suc place) exit) s ∷ block_rows names (n + expr_count (plain_expr s)) rest (suc place) exit
block_rows names n (branch e s u rest) place exit =
    let after = first_place rest (suc place + size s + size u) exit in
    If (expression n e) (first_place s (suc place) after) (first_place u (suc place + size s) after) ∷ (block_rows names (n + expr_count e) s (suc place) after ++ (block_rows names (n + expr_count e + block_count s) u (suc place + size s) after ++ block_rows names (n + expr_count e + block_count s + block_count u) rest (suc place + size s + size u) exit))
block_rows names n (loop e s rest) place exit = While (expression n e) (first_place s (suc place) place) (first_place rest (suc place + size s) exit) ∷ (block_rows names (n + expr_count e) s (suc place) place ++ block_rows names (n + expr_count e + block_count s) rest (suc place + size s) exit)

-- A body: its statements, and the return of 0 that is added, with a node of its own.
abbrev pub body_rows : List (List ℕ) → ℕ → Block → ℕ → List Statement
body_rows names n s place = block_rows names n s place (place + size s) ++ (Return (Of (n + block_count s)) ∷ [])

abbrev pub body_nodes : ℕ → Block → List Node
body_nodes n s = block_nodes n s ++ (Number 0 ∷ [])

-- Bodies one after another: their statements, their nodes, and their first places, where a body's is that of its first
-- statement, or of the return.
abbrev pub bodies_rows : List (List ℕ) → ℕ → List Block → ℕ → List Statement
bodies_rows names n [] place = []
bodies_rows names n (s ∷ rest) place = body_rows names n s place ++ bodies_rows names (suc (n + block_count s)) rest (suc (place + size s))

abbrev pub bodies_nodes : ℕ → List Block → List Node
bodies_nodes n [] = []
bodies_nodes n (s ∷ rest) = body_nodes n s ++ bodies_nodes (suc (n + block_count s)) rest

abbrev pub first_places : List Block → ℕ → List ℕ
first_places [] place = []
first_places (s ∷ rest) place = place ∷ first_places rest (suc (place + size s))

abbrev pub bodies : List Procedure → List Main → List Block
bodies ps ms = map (λ p. p.body) ps ++ map (λ m. m.body) ms

-- What the goal asks of a global.
abbrev pub asked : Aim → Option ℕ
asked (exactly ds) = Some (value ds)
asked anything = None

-- The program of a source.
unfoldable pub compiled : Source → Table
compiled s =
    let names = names_of s.procedures in
    record {
      values = value s.values;
      globals = value s.globals;
      buffers = value s.buffers;
      levels = value s.levels;
      places = bodies_rows names 0 (bodies s.procedures s.mains) 0;
      nodes = bodies_nodes 0 (bodies s.procedures s.mains);
      procedures = first_places (map (λ p. p.body) s.procedures) 0;
      mains = first_places (map (λ m. m.body) s.mains) (procedure_places s.procedures);
      start = map value s.from;
      goal = map asked s.goal;
    }
