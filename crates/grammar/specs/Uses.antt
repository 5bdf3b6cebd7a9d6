-- The names in a source, in the order of the text, with the numbers of their tokens. Assumes nothing.
use Rattle.std.specs.Prelude.{ℕ, zero, suc, ◌+◌, Bool, true, false, cond, not, List, [], ◌∷◌, ◌++◌, map, length, Some, None, Option}
use Rattle.std.specs.Str.{bytes_eq}
use Rattle.std.specs.List.{filter, find, list_any}
use Rattle.lexer.specs.Lexemes.{Reader}
use Rattle.grammar.specs.Sources.{Plain, skips, assigns, assumes, calls, returns, posts, yields, zields, Block, stop, plain, branch, loop, Procedure, Main, Source}
use Rattle.grammar.specs.Spelling.{spelt_expr, spelt_plain, spelt_block, spelt_procedures}

-- How a name is used.
pub data Manner : Type 0 where
  posted : Manner
  called : Manner

pub record Use : Type 0 where
  pub manner : Manner
  pub name : List ℕ
  pub token : ℕ

-- The use in a statement whose first token has number k.
abbrev pub uses_plain : ℕ → Plain → List Use
uses_plain k skips = []
uses_plain k (assigns v e) = []
uses_plain k (assumes e) = []
uses_plain k (calls v p e) = record { manner = called; name = p; token = k + 3 } ∷ []
uses_plain k (returns e) = []
uses_plain k (posts m p e) = record { manner = posted; name = p; token = k + 2 } ∷ []
uses_plain k yields = []
uses_plain k zields = []

abbrev pub uses_block : ℕ → Block → List Use
uses_block k stop = []
uses_block k (plain s rest) = uses_plain k s ++ uses_block (k + length (spelt_plain s)) rest
uses_block k (branch e s u rest) = uses_block (k + length (spelt_expr e) + 2) s ++ (uses_block (k + length (spelt_expr e) + length (spelt_block s) + 5) u ++ uses_block (k + length (spelt_expr e) + length (spelt_block s) + length (spelt_block u) + 6) rest)
uses_block k (loop e s rest) = uses_block (k + length (spelt_expr e) + 2) s ++ uses_block (k + length (spelt_expr e) + length (spelt_block s) + 3) rest

abbrev pub uses_procedures : ℕ → List Procedure → List Use
uses_procedures k [] = []
uses_procedures k (p ∷ ps) = uses_block (k + 3) p.body ++ uses_procedures (k + length (spelt_block p.body) + 4) ps

abbrev pub uses_mains : ℕ → List Main → List Use
uses_mains k [] = []
uses_mains k (m ∷ ms) = uses_block (k + 3) m.body ++ uses_mains (k + length (spelt_block m.body) + 4) ms

-- All uses; the sizes are eight tokens.
unfoldable pub uses : Source → List Use
uses s = uses_procedures 8 s.procedures ++ uses_mains (8 + length (spelt_procedures s.procedures)) s.mains

-- The names that are declared.
abbrev pub names_of : List Procedure → List (List ℕ)
names_of ps = map (λ p. p.name) ps

-- The first use of a name that is not declared.
unfoldable pub undeclared : Source → Option Use
undeclared s = find (λ u. not (list_any (bytes_eq u.name) (names_of s.procedures))) (uses s)

-- The names that are posted, and that are called, among some uses.
abbrev pub is_posted : Manner → Bool
is_posted posted = true
is_posted called = false

abbrev pub names_posted : List Use → List (List ℕ)
names_posted us = map (λ u. u.name) (filter (λ u. is_posted u.manner) us)

abbrev pub names_called : List Use → List (List ℕ)
names_called us = map (λ u. u.name) (filter (λ u. not (is_posted u.manner)) us)

-- The first use, after those before, of a name that one before uses in the other manner.
abbrev pub shows_both : List Use → Use → Bool
shows_both before u = cond (is_posted u.manner) (list_any (bytes_eq u.name) (names_called before)) (list_any (bytes_eq u.name) (names_posted before))

abbrev pub both_from : List Use → List Use → Option Use
both_from before [] = None
both_from before (u ∷ us) = cond (shows_both before u) (Some u) (both_from (before ++ (u ∷ [])) us)

unfoldable pub posted_and_called : Source → Option Use
posted_and_called s = both_from [] (uses s)

-- The offset at which the token of a number begins.
unfoldable pub offset : Reader → ℕ → ℕ
offset r zero = r.first
offset r (suc k) = r.next (offset r k)
