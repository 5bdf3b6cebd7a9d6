-- Reading statements and blocks from left to right. Assumes nothing.
use Rattle.std.specs.Prelude.{ℕ, zero, suc, ◌+◌, Bool, true, false, Some, None, codes, Option, nat_lt}
use Rattle.lexer.specs.Lexemes.{Lexeme, word, mark, Reader}
use Rattle.lexer.specs.declared.mark.Mark.TheVariants.{Open, Close, Semicolon, Becomes}
use Rattle.program.specs.declared.variable.Variable.{Variable}
use Rattle.grammar.specs.Tokens.{same, variable_of, key_of, Key, on_skip, on_assume, on_if, on_while, on_call, on_return, on_post, on_yield, on_zield}
use Rattle.grammar.specs.Sources.{Expr, Plain, skips, assigns, assumes, calls, returns, posts, yields, zields, Block, stop, plain, branch, loop, size, Sizes}
use Rattle.grammar.specs.Results.{Outcome, ok, bad, then, guard, seeing, expect}
use Rattle.grammar.specs.ReadExpr.{ranged, a_variable, a_number, a_name, an_expr}

-- What a statement begins with, or that the block ends.
pub data Opening : Type 0 where
  begins : Key → Opening
  sets : Variable → Opening
  closes : Opening
  nothing : Opening

abbrev pub opened_by : Option Key → Option Variable → Bool → Opening
opened_by (Some k) v c = begins k
opened_by None (Some v) c = sets v
opened_by None None true = closes
opened_by None None false = nothing

unfoldable pub opening : Lexeme → Opening
opening t = opened_by (key_of t) (variable_of t) (same t (mark Close))

-- The rest of a statement: a semicolon; an expression and a semicolon.
unfoldable pub ended : Reader → Plain → ℕ → Outcome Plain
ended r s a = then (expect r (mark Semicolon) a) (λ _ b. ok s b)

unfoldable pub ended_expr : Reader → Sizes → (Expr → Plain) → ℕ → Outcome Plain
ended_expr r z f a = then (an_expr r z.values z.globals a) (λ e b. ended r (f e) b)

-- The rest of an assignment, a call and a post.
unfoldable pub set_rest : Reader → Sizes → Variable → ℕ → Outcome Plain
set_rest r z v a = then (expect r (mark Becomes) a) (λ _ b. ended_expr r z (λ e. assigns v e) b)

unfoldable pub call_rest : Reader → Sizes → ℕ → Outcome Plain
call_rest r z a = then (a_variable r z.globals a) (λ v b. then (expect r (mark Becomes) b) (λ _ c. then (a_name r c) (λ p d. ended_expr r z (λ e. calls v p e) d)))

unfoldable pub post_rest : Reader → Sizes → ℕ → Outcome Plain
post_rest r z a = then (a_number r z.levels a) (λ m b. then (a_name r b) (λ p c. ended_expr r z (λ e. posts m p e) c))

-- How a block's statements are read: at most so many blocks further in, from a place and an offset on.
abbrev pub Blocks : Type 0
Blocks = ℕ → ℕ → ℕ → Outcome Block

abbrev pub deeper : {A : Type 0} → ℕ → ℕ → (ℕ → Outcome A) → Outcome A
deeper zero a f = bad 7 a
deeper (suc n) a f = f n

-- A block in braces, one further in.
unfoldable pub inner_block : Reader → Blocks → ℕ → ℕ → ℕ → Outcome Block
inner_block r rec nest place a = seeing r a (λ t. guard (same t (mark Open)) 3 a (deeper nest a (λ m. then (rec m place (r.next a)) (λ s b. then (expect r (mark Close) b) (λ _ c. ok s c)))))

-- A statement without blocks and what follows it; the rest of an if, and of a while, and what follows.
abbrev pub followed : Outcome Plain → (ℕ → Outcome Block) → Outcome Block
followed p g = then p (λ s b. then (g b) (λ rest c. ok (plain s rest) c))

unfoldable pub branch_rest : Reader → Sizes → Blocks → ℕ → ℕ → ℕ → Outcome Block
branch_rest r z rec nest place a = then (an_expr r z.values z.globals a) (λ e b. then (inner_block r rec nest (suc place) b) (λ s c. then (expect r (word (codes "else")) c) (λ _ d. then (inner_block r rec nest (suc place + size s) d) (λ u x. then (rec nest (suc place + size s + size u) x) (λ rest y. ok (branch e s u rest) y)))))

unfoldable pub loop_rest : Reader → Sizes → Blocks → ℕ → ℕ → ℕ → Outcome Block
loop_rest r z rec nest place a = then (an_expr r z.values z.globals a) (λ e b. then (inner_block r rec nest (suc place) b) (λ s c. then (rec nest (suc place + size s) c) (λ rest x. ok (loop e s rest) x)))

-- The rest of a statement after its first word, and what follows it.
abbrev pub keyed : Reader → Sizes → Blocks → ℕ → ℕ → ℕ → Key → Outcome Block
keyed r z rec nest place a on_skip = followed (ended r skips a) (λ b. rec nest (suc place) b)
keyed r z rec nest place a on_assume = followed (ended_expr r z (λ e. assumes e) a) (λ b. rec nest (suc place) b)
keyed r z rec nest place a on_if = branch_rest r z rec nest place a
keyed r z rec nest place a on_while = loop_rest r z rec nest place a
keyed r z rec nest place a on_call = followed (call_rest r z a) (λ b. rec nest (suc place) b)
keyed r z rec nest place a on_return = followed (ended_expr r z (λ e. returns e) a) (λ b. rec nest (suc place) b)
keyed r z rec nest place a on_post = followed (post_rest r z a) (λ b. rec nest (suc place) b)
keyed r z rec nest place a on_yield = followed (ended r yields a) (λ b. rec nest (suc place) b)
keyed r z rec nest place a on_zield = followed (ended r zields a) (λ b. rec nest (suc place) b)

-- A statement that begins so at an offset, and what follows it, up to the brace that ends the block. A place must be left.
abbrev pub statement_from : Reader → Sizes → Blocks → ℕ → ℕ → ℕ → Opening → Outcome Block
statement_from r z rec nest place a (begins k) = guard (nat_lt place 200) 7 a (keyed r z rec nest place (r.next a) k)
statement_from r z rec nest place a (sets v) = guard (ranged z.globals v) 4 a (guard (nat_lt place 200) 7 a (followed (set_rest r z v (r.next a)) (λ b. rec nest (suc place) b)))
statement_from r z rec nest place a closes = ok stop a
statement_from r z rec nest place a nothing = bad 3 a

unfoldable pub statement_at : Reader → Sizes → Blocks → Blocks
statement_at r z rec nest place a = seeing r a (λ t. statement_from r z rec nest place a (opening t))

-- The statements of a block up to the brace that ends it. Fuel past the places that are left is never used up.
unfoldable pub statements : Reader → Sizes → ℕ → Blocks
statements r z zero nest place a = bad 7 a
statements r z (suc fuel) nest place a = statement_at r z (λ n p b. statements r z fuel n p b) nest place a
