-- A source, the uses of its names, and its program, computed; and how many places and nodes a program has.
use Rattle.std.proofs.Common.{◌≡◌, ℕ, suc, ◌+◌, List, [], ◌∷◌, length, None, codes, refl, ap, ◌∙◌, arith, length-append}
use Rattle.program.specs.declared.variable.Variable.TheVariants.{Local}
use Rattle.program.specs.declared.expression.Expression.TheVariants.{Any, Of}
use Rattle.program.specs.declared.node.Node.TheVariants.{Number, Read}
use Rattle.program.specs.declared.statement.Statement.TheVariants.{Skip, If, While, Return, Post}
use Rattle.grammar.specs.Tokens.{value_from, value}
use Rattle.grammar.specs.Sources.{Term, numeral, variable, negated, single, double, one, Expr, star, sum, skips, posts, Block, stop, plain, branch, loop, size, Procedure, Main, anything, Source, procedure_places, main_places}
use Rattle.grammar.specs.Uses.{posted, uses, names_of, undeclared, posted_and_called}
use Rattle.grammar.specs.Compiled.{term_count, term_nodes, expr_count, expr_nodes, sum_term, plain_expr, block_count, block_nodes, first_place, block_rows, bodies_rows, bodies, compiled}

-- proc p { } main 0 { if * { skip ; } else { } while l { post 0 p 1 ; } } from 0 goal _
abbrev example : Source
example = record { values = codes "2"; globals = codes "1"; buffers = codes "1"; levels = codes "1"; procedures = record { name = codes "p"; body = stop } ∷ []; mains = record { number = codes "0"; body = branch star (plain skips stop) stop (loop (sum (one (variable Local))) (plain (posts (codes "0") (codes "p") (sum (one (numeral (codes "1"))))) stop) stop) } ∷ []; from = codes "0" ∷ []; goal = anything ∷ []; bounds = [] }

example_uses : uses example ≡ record { manner = posted; name = codes "p"; token = 29 } ∷ []
unfolding uses
example_uses = refl

example_declared : undeclared example ≡ None
unfolding undeclared uses
example_declared = refl

example_one_manner : posted_and_called example ≡ None
unfolding posted_and_called uses
example_one_manner = refl

example_program : compiled example ≡ record { values = 2; globals = 1; buffers = 1; levels = 1; places = Return (Of 0) ∷ If Any 2 3 ∷ Skip 3 ∷ While (Of 1) 4 5 ∷ Post 0 0 (Of 2) 3 ∷ Return (Of 3) ∷ []; nodes = Number 0 ∷ Read Local ∷ Number 1 ∷ Number 0 ∷ []; procedures = 0 ∷ []; mains = 1 ∷ []; start = 0 ∷ []; goal = None ∷ [] }
unfolding compiled value value_from
example_program = refl

-- A block has as many statements as places, and as many nodes as are counted.
pub rows_length : (names : List (List ℕ)) (n : ℕ) (s : Block) (place exit : ℕ) → length (block_rows names n s place exit) ≡ size s
rows_length names n stop place exit = refl
rows_length names n (plain s rest) place exit =
    ap suc (rows_length names (n + expr_count (plain_expr s)) rest (suc place) exit)
rows_length names n (branch e s u rest) place exit =
    let after = first_place rest (suc place + size s + size u) exit in
    let i = rows_length names (n + expr_count e) s (suc place) after in
    let j = rows_length names (n + expr_count e + block_count s) u (suc place + size s) after in
    let k = rows_length names (n + expr_count e + block_count s + block_count u) rest (suc place + size s + size u) exit in
    simp (length-append, i, j, k) (omega arith)
rows_length names n (loop e s rest) place exit =
    let i = rows_length names (n + expr_count e) s (suc place) place in
    let j = rows_length names (n + expr_count e + block_count s) rest (suc place + size s) exit in
    simp (length-append, i, j) (omega arith)

pub term_length : (n : ℕ) (t : Term) → length (term_nodes n t) ≡ term_count t
term_length n (numeral ds) = refl
term_length n (variable v) = refl
term_length n (negated t) = simp (length-append, term_length n t) (omega arith)
term_length n (single t) = term_length n t
term_length n (double t o u) =
    simp (length-append, term_length n t, term_length (n + term_count t) u) (omega arith)

expr_length : (n : ℕ) (e : Expr) → length (expr_nodes n e) ≡ expr_count e
expr_length n star = refl
expr_length n (sum s) = term_length n (sum_term s)

pub nodes_length : (n : ℕ) (s : Block) → length (block_nodes n s) ≡ block_count s
nodes_length n stop = refl
nodes_length n (plain s rest) =
    let i = expr_length n (plain_expr s) in
    let j = nodes_length (n + expr_count (plain_expr s)) rest in
    simp (length-append, i, j) (omega arith)
nodes_length n (branch e s u rest) =
    let i = expr_length n e in
    let j = nodes_length (n + expr_count e) s in
    let k = nodes_length (n + expr_count e + block_count s) u in
    let l = nodes_length (n + expr_count e + block_count s + block_count u) rest in
    simp (length-append, i, j, k, l) (omega arith)
nodes_length n (loop e s rest) =
    let i = expr_length n e in
    let j = nodes_length (n + expr_count e) s in
    let k = nodes_length (n + expr_count e + block_count s) rest in
    simp (length-append, i, j, k) (omega arith)

-- Bodies one after another have the places that are counted, one more each.
abbrev total : List Block → ℕ
total [] = 0
total (s ∷ rest) = suc (size s + total rest)

bodies_length : (names : List (List ℕ)) (n : ℕ) (ss : List Block) (place : ℕ) → length (bodies_rows names n ss place) ≡ total ss
bodies_length names n [] place = refl
bodies_length names n (s ∷ rest) place =
    let i = rows_length names n s place (place + size s) in
    let j = bodies_length names (suc (n + block_count s)) rest (suc (place + size s)) in
    simp (length-append, i, j) (omega arith)

total_both : (ps : List Procedure) (ms : List Main) → total (bodies ps ms) ≡ procedure_places ps + main_places ms
total_both [] [] = refl
total_both [] (m ∷ ms) = let i = total_both [] ms in omega arith
total_both (p ∷ ps) ms = let i = total_both ps ms in omega arith

-- A program has as many places as its source.
pub places_length : (s : Source) → length (compiled s).places ≡ procedure_places s.procedures + main_places s.mains
unfolding compiled
places_length s =
    bodies_length (names_of s.procedures) 0 (bodies s.procedures s.mains) 0 ∙ total_both s.procedures s.mains
