-- The tokens that a source is spelt by. Assumes nothing.
use Rattle.std.specs.Prelude.{ℕ, List, [], ◌∷◌, ◌++◌, map, codes}
use Rattle.lexer.specs.Lexemes.{Lexeme, word, number, mark}
use Rattle.lexer.specs.declared.mark.Mark.TheVariants.{Open, Close, Left, Right, Semicolon, Becomes, Not, Star, Any}
use Rattle.grammar.specs.Tokens.{letters, sign, limit_letters}
use Rattle.grammar.specs.Sources.{Term, numeral, variable, negated, single, double, Sum, one, two, Expr, star, sum, Plain, skips, assigns, assumes, calls, returns, posts, yields, zields, Block, stop, plain, branch, loop, Procedure, Main, Bound, Aim, exactly, anything, Source}

abbrev pub spelt_term : Term → List Lexeme
spelt_term (numeral ds) = number ds ∷ []
spelt_term (variable v) = word (letters v) ∷ []
spelt_term (negated t) = mark Not ∷ spelt_term t
spelt_term (single t) = mark Left ∷ (spelt_term t ++ (mark Right ∷ []))
spelt_term (double t o u) = mark Left ∷ ((spelt_term t ++ (mark (sign o) ∷ spelt_term u)) ++ (mark Right ∷ []))

abbrev pub spelt_sum : Sum → List Lexeme
spelt_sum (one t) = spelt_term t
spelt_sum (two t o u) = spelt_term t ++ (mark (sign o) ∷ spelt_term u)

abbrev pub spelt_expr : Expr → List Lexeme
spelt_expr star = mark Star ∷ []
spelt_expr (sum s) = spelt_sum s

-- An expression, and the semicolon that ends its statement.
abbrev pub closed : Expr → List Lexeme
closed e = spelt_expr e ++ (mark Semicolon ∷ [])

abbrev pub spelt_plain : Plain → List Lexeme
spelt_plain skips = word (codes "skip") ∷ mark Semicolon ∷ []
spelt_plain (assigns v e) = word (letters v) ∷ mark Becomes ∷ closed e
spelt_plain (assumes e) = word (codes "assume") ∷ closed e
spelt_plain (calls v p e) = word (codes "call") ∷ word (letters v) ∷ mark Becomes ∷ word p ∷ closed e
spelt_plain (returns e) = word (codes "return") ∷ closed e
spelt_plain (posts m p e) = word (codes "post") ∷ number m ∷ word p ∷ closed e
spelt_plain yields = word (codes "yield") ∷ mark Semicolon ∷ []
spelt_plain zields = word (codes "zield") ∷ mark Semicolon ∷ []

-- Tokens between braces.
abbrev pub braced : List Lexeme → List Lexeme
braced ts = mark Open ∷ (ts ++ (mark Close ∷ []))

abbrev pub spelt_block : Block → List Lexeme
spelt_block stop = []
spelt_block (plain s rest) = spelt_plain s ++ spelt_block rest
spelt_block (branch e s u rest) = word (codes "if") ∷ (spelt_expr e ++ (braced (spelt_block s) ++ (word (codes "else") ∷ (braced (spelt_block u) ++ spelt_block rest))))
spelt_block (loop e s rest) = word (codes "while") ∷ (spelt_expr e ++ (braced (spelt_block s) ++ spelt_block rest))

abbrev pub spelt_procedures : List Procedure → List Lexeme
spelt_procedures [] = []
spelt_procedures (p ∷ ps) = word (codes "proc") ∷ word p.name ∷ (braced (spelt_block p.body) ++ spelt_procedures ps)

abbrev pub spelt_mains : List Main → List Lexeme
spelt_mains [] = []
spelt_mains (m ∷ ms) = word (codes "main") ∷ number m.number ∷ (braced (spelt_block m.body) ++ spelt_mains ms)

abbrev pub spelt_values : List (List ℕ) → List Lexeme
spelt_values xs = map number xs

abbrev pub spelt_aim : Aim → Lexeme
spelt_aim (exactly ds) = number ds
spelt_aim anything = mark Any

abbrev pub spelt_aims : List Aim → List Lexeme
spelt_aims xs = map spelt_aim xs

abbrev pub spelt_bounds : List Bound → List Lexeme
spelt_bounds [] = []
spelt_bounds (x ∷ rest) = word (codes "bound") ∷ word (limit_letters x.limit) ∷ number x.budget ∷ spelt_bounds rest

-- The sizes, each after its word.
abbrev pub spelt_numbers : List ℕ → List ℕ → List ℕ → List ℕ → List Lexeme
spelt_numbers v g n m = word (codes "values") ∷ number v ∷ word (codes "globals") ∷ number g ∷ word (codes "buffers") ∷ number n ∷ word (codes "levels") ∷ number m ∷ []

abbrev pub spelt_sizes : Source → List Lexeme
spelt_sizes s = spelt_numbers s.values s.globals s.buffers s.levels

-- The procedures, the mains, the start, the goal and the bounds; a whole text.
abbrev pub spelt_rest : Source → List Lexeme
spelt_rest s = spelt_procedures s.procedures ++ (spelt_mains s.mains ++ (word (codes "from") ∷ (spelt_values s.from ++ (word (codes "goal") ∷ (spelt_aims s.goal ++ spelt_bounds s.bounds)))))

abbrev pub spelt : Source → List Lexeme
spelt s = spelt_sizes s ++ spelt_rest s
