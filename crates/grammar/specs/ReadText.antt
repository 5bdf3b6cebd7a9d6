-- Reading a whole text from left to right. Assumes nothing.
use Rattle.std.specs.Prelude.{ℕ, zero, suc, ◌+◌, cond, not, ◌&&◌, List, [], ◌∷◌, ◌++◌, codes, ◌==◌, nat_le, nat_lt}
use Rattle.std.specs.Str.{bytes_eq}
use Rattle.std.specs.List.{list_any}
use Rattle.lexer.specs.Lexemes.{word, mark, end, Reader}
use Rattle.lexer.specs.declared.mark.Mark.TheVariants.{Open, Close, Any}
use Rattle.grammar.specs.Tokens.{same, value, digits_of, Limit, limit_of}
use Rattle.grammar.specs.Sources.{Block, size, Procedure, Main, Bound, Aim, exactly, anything, Sizes, sizes_from, procedure_places, Source}
use Rattle.grammar.specs.Results.{Outcome, ok, then, guard, need, seeing, expect}
use Rattle.grammar.specs.ReadExpr.{a_number, a_name}
use Rattle.grammar.specs.ReadBlock.{statements}

-- A number between two limits; a size after its word; a number that is due.
unfoldable pub between : Reader → ℕ → ℕ → ℕ → Outcome (List ℕ)
between r low high a = seeing r a (λ t. need (digits_of t) a (λ ds. guard (nat_le low (value ds) && nat_le (value ds) high) 4 a (ok ds (r.next a))))

unfoldable pub sized : Reader → List ℕ → ℕ → ℕ → ℕ → Outcome (List ℕ)
sized r w low high a = then (expect r (word w) a) (λ _ b. between r low high b)

unfoldable pub exactly_number : Reader → ℕ → ℕ → Outcome (List ℕ)
exactly_number r n a = seeing r a (λ t. need (digits_of t) a (λ ds. guard (value ds == n) 4 a (ok ds (r.next a))))

-- A body in braces: its statements from a place on, and a place for the return that is added.
unfoldable pub a_body : Reader → Sizes → ℕ → ℕ → Outcome Block
a_body r z place a = then (expect r (mark Open) a) (λ _ b. then (statements r z 201 7 place b) (λ s c. guard (nat_lt (place + size s) 200) 7 c (then (expect r (mark Close) c) (λ _ d. ok s d))))

-- A name that none of these is.
unfoldable pub new_name : Reader → List (List ℕ) → ℕ → Outcome (List ℕ)
new_name r names a = then (a_name r a) (λ w b. guard (not (list_any (bytes_eq w) names)) 5 a (ok w b))

-- At most so many procedures, after others of these names, from a place on.
unfoldable pub some_procedures : Reader → Sizes → ℕ → List (List ℕ) → ℕ → ℕ → Outcome (List Procedure)
some_procedures r z zero names place a = seeing r a (λ t. guard (not (same t (word (codes "proc")))) 7 a (ok [] a))
some_procedures r z (suc room) names place a = seeing r a (λ t. cond (same t (word (codes "proc"))) (then (new_name r names (r.next a)) (λ w b. then (a_body r z place b) (λ s c. then (some_procedures r z room (names ++ (w ∷ [])) (suc (place + size s)) c) (λ rest d. ok (record { name = w; body = s } ∷ rest) d)))) (ok [] a))

-- So many mains from number n on, from a place on.
unfoldable pub some_mains : Reader → Sizes → ℕ → ℕ → ℕ → ℕ → Outcome (List Main)
some_mains r z zero n place a = ok [] a
some_mains r z (suc left) n place a = then (expect r (word (codes "main")) a) (λ _ b. then (exactly_number r n b) (λ ds c. then (a_body r z place c) (λ s d. then (some_mains r z left (suc n) (suc (place + size s)) d) (λ rest x. ok (record { number = ds; body = s } ∷ rest) x))))

-- So many values; so many of the goal's parts.
unfoldable pub some_values : Reader → ℕ → ℕ → ℕ → Outcome (List (List ℕ))
some_values r values zero a = ok [] a
some_values r values (suc left) a = then (a_number r values a) (λ ds b. then (some_values r values left b) (λ rest c. ok (ds ∷ rest) c))

unfoldable pub an_aim : Reader → ℕ → ℕ → Outcome Aim
an_aim r values a = seeing r a (λ t. cond (same t (mark Any)) (ok anything (r.next a)) (then (a_number r values a) (λ ds b. ok (exactly ds) b)))

unfoldable pub some_aims : Reader → ℕ → ℕ → ℕ → Outcome (List Aim)
some_aims r values zero a = ok [] a
some_aims r values (suc left) a = then (an_aim r values a) (λ x b. then (some_aims r values left b) (λ rest c. ok (x ∷ rest) c))

-- At most so many bounds.
unfoldable pub a_limit : Reader → ℕ → Outcome Limit
a_limit r a = seeing r a (λ t. need (limit_of t) a (λ k. ok k (r.next a)))

unfoldable pub some_bounds : Reader → ℕ → ℕ → Outcome (List Bound)
some_bounds r zero a = seeing r a (λ t. guard (not (same t (word (codes "bound")))) 7 a (ok [] a))
some_bounds r (suc room) a = seeing r a (λ t. cond (same t (word (codes "bound"))) (then (a_limit r (r.next a)) (λ k b. then (a_number r 256 b) (λ ds c. then (some_bounds r room c) (λ rest d. ok (record { limit = k; budget = ds } ∷ rest) d)))) (ok [] a))

-- What follows the sizes, and the end of the text, where the reading stops.
unfoldable pub text_rest : Reader → List ℕ → List ℕ → List ℕ → List ℕ → ℕ → Outcome Source
text_rest r v g n m a = then (some_procedures r (sizes_from v g n m) 16 [] 0 a) (λ ps b. then (some_mains r (sizes_from v g n m) (value n) 0 (procedure_places ps) b) (λ ms c. then (expect r (word (codes "from")) c) (λ _ d. then (some_values r (value v) (value g) d) (λ fs x. then (expect r (word (codes "goal")) x) (λ _ y. then (some_aims r (value v) (value g) y) (λ gs w. then (some_bounds r 4 w) (λ bs u. then (expect r end u) (λ _ _. ok (record { values = v; globals = g; buffers = n; levels = m; procedures = ps; mains = ms; from = fs; goal = gs; bounds = bs }) u))))))))

-- A whole text, and the offset of its end.
unfoldable pub a_text : Reader → Outcome Source
a_text r = then (sized r (codes "values") 2 16 r.first) (λ v a. then (sized r (codes "globals") 1 8 a) (λ g b. then (sized r (codes "buffers") 1 3 b) (λ n c. then (sized r (codes "levels") 1 4 c) (λ m d. text_rest r v g n m d))))
