-- Statements and blocks that are spelt, and keep the rules, are read.
use Rattle.std.proofs.Common.{◌≡◌, ℕ, zero, suc, ◌+◌, ◌<◌, ◌≤◌, List, [], ◌∷◌, ◌++◌, None, codes, refl, ap, arith}
use Rattle.std.proofs.lemmas.Bool.{lt-ltb}
use Rattle.lexer.specs.Lexemes.{Lexeme, word, number, mark, token, Reader}
use Rattle.lexer.specs.declared.mark.Mark.TheVariants.{Open, Close, Semicolon, Becomes}
use Rattle.program.specs.declared.variable.Variable.{Variable}
use Rattle.program.specs.declared.variable.Variable.TheVariants.{Global, Local}
use Rattle.grammar.specs.Tokens.{letters, variable_of, operator_of, key_of, key_letters, Key, on_skip, on_assume, on_if, on_while, on_call, on_return, on_post, on_yield, on_zield}
use Rattle.grammar.specs.Sources.{Expr, Plain, skips, assigns, assumes, calls, returns, posts, yields, zields, Block, stop, plain, branch, loop, size, Sizes}
use Rattle.grammar.specs.Spelling.{spelt_expr, closed, spelt_plain, braced, spelt_block}
use Rattle.grammar.specs.Rules.{Ranged, KeepsExpr, KeepsPlain, KeepsBlock}
use Rattle.grammar.specs.Results.{ok, Reads}
use Rattle.grammar.specs.ReadBlock.{begins, sets, closes, opening, ended, ended_expr, set_rest, call_rest, post_rest, Blocks, inner_block, branch_rest, loop_rest, statement_from, statement_at, statements}
use Rattle.grammar.proofs.Joining.{split, expect_complete}
use Rattle.grammar.proofs.Telling.{variable_back, true_ranged, ranged_wider, a_variable_complete, a_number_complete, a_name_complete}
use Rattle.grammar.proofs.ExpressionsBack.{no_operator, expr_complete}

-- The first token of a statement tells how it begins.
opening_key : (k : Key) → opening (word (key_letters k)) ≡ begins k
unfolding opening key_of
opening_key on_skip = refl
opening_key on_assume = refl
opening_key on_if = refl
opening_key on_while = refl
opening_key on_call = refl
opening_key on_return = refl
opening_key on_post = refl
opening_key on_yield = refl
opening_key on_zield = refl

no_key : (v : Variable) → key_of (word (letters v)) ≡ None
unfolding key_of
no_key (Global n) = refl
no_key Local = refl

opening_variable : (v : Variable) → Ranged 8 v → opening (word (letters v)) ≡ sets v
unfolding opening
opening_variable v h = rw (no_key v, variable_back v h)

opening_close : opening (mark Close) ≡ closes
unfolding opening key_of variable_of
opening_close = refl

-- No operator stands where an expression ends.
semicolon_none : operator_of (mark Semicolon) ≡ None
unfolding operator_of
semicolon_none = refl

open_none : operator_of (mark Open) ≡ None
unfolding operator_of
open_none = refl

module _ (r : Reader) (z : Sizes) (few : z.globals ≤ 8) where
  ended_complete : (s : Plain) (a b : ℕ) → Reads r a (mark Semicolon ∷ []) b → ended r s a ≡ ok s b
  unfolding ended
  ended_complete s a b h = rw (expect_complete r (mark Semicolon) a h.0) (ap (ok s) h.1)

  ended_expr_complete : (f : Expr → Plain) (e : Expr) (a b : ℕ) → Reads r a (closed e) b → KeepsExpr z.values z.globals e → ended_expr r z f a ≡ ok (f e) b
  unfolding ended_expr
  ended_expr_complete f e a b h k =
      split r (spelt_expr e) (mark Semicolon ∷ []) a b h
      (λ c p q. rw (expr_complete r z.values z.globals few e a c p k (no_operator r (mark Semicolon) c q.0 semicolon_none)) (ended_complete (f e) c b q))

  set_complete : (v : Variable) (e : Expr) (a b : ℕ) → Reads r a (mark Becomes ∷ closed e) b → KeepsExpr z.values z.globals e → set_rest r z v a ≡ ok (assigns v e) b
  unfolding set_rest
  set_complete v e a b h k =
      rw (expect_complete r (mark Becomes) a h.0) (ended_expr_complete (λ x. assigns v x) e (r.next a) b h.1 k)

  call_complete : (v : Variable) (p : List ℕ) (e : Expr) (a b : ℕ) → Reads r a (word (letters v) ∷ mark Becomes ∷ word p ∷ closed e) b → KeepsPlain z (calls v p e) → call_rest r z a ≡ ok (calls v p e) b
  unfolding call_rest
  call_complete v p e a b h k =
      rw (a_variable_complete r z.globals a v few h.0 k.0, expect_complete r (mark Becomes) (r.next a) h.1.0, a_name_complete r (r.next (r.next a)) p h.1.1.0 k.1) (ended_expr_complete (λ x. calls v p x) e (r.next (r.next (r.next a))) b h.1.1.1 k.2)

  post_complete : (m p : List ℕ) (e : Expr) (a b : ℕ) → Reads r a (number m ∷ word p ∷ closed e) b → KeepsPlain z (posts m p e) → post_rest r z a ≡ ok (posts m p e) b
  unfolding post_rest
  post_complete m p e a b h k =
      rw (a_number_complete r z.levels a m h.0 k.0, a_name_complete r (r.next a) p h.1.0 k.1) (ended_expr_complete (λ x. posts m p x) e (r.next (r.next a)) b h.1.1 k.2)

  module _ (rec : Blocks) where
    at_read : (t : Lexeme) (nest place a : ℕ) → r.look a ≡ token t → statement_at r z rec nest place a ≡ statement_from r z rec nest place a (opening t)
    unfolding statement_at
    at_read t nest place a l = rw l

    -- A statement without blocks, and what follows it.
    plain_read : (s : Plain) (rest : Block) (nest place a b c : ℕ) → Reads r a (spelt_plain s) b → KeepsPlain z s → place < 200 → rec nest (suc place) b ≡ ok rest c → statement_at r z rec nest place a ≡ ok (plain s rest) c
    plain_read skips rest nest place a b c h k lt e =
        rw (at_read (word (codes "skip")) nest place a h.0, opening_key on_skip, lt-ltb place 200 lt, ended_complete skips (r.next a) b h.1, e)
    plain_read (assigns v x) rest nest place a b c h k lt e =
        rw (at_read (word (letters v)) nest place a h.0, opening_variable v (ranged_wider z.globals 8 v few k.0), true_ranged z.globals v k.0, lt-ltb place 200 lt, set_complete v x (r.next a) b h.1 k.1, e)
    plain_read (assumes x) rest nest place a b c h k lt e =
        rw (at_read (word (codes "assume")) nest place a h.0, opening_key on_assume, lt-ltb place 200 lt, ended_expr_complete (λ y. assumes y) x (r.next a) b h.1 k, e)
    plain_read (calls v p x) rest nest place a b c h k lt e =
        rw (at_read (word (codes "call")) nest place a h.0, opening_key on_call, lt-ltb place 200 lt, call_complete v p x (r.next a) b h.1 k, e)
    plain_read (returns x) rest nest place a b c h k lt e =
        rw (at_read (word (codes "return")) nest place a h.0, opening_key on_return, lt-ltb place 200 lt, ended_expr_complete (λ y. returns y) x (r.next a) b h.1 k, e)
    plain_read (posts m p x) rest nest place a b c h k lt e =
        rw (at_read (word (codes "post")) nest place a h.0, opening_key on_post, lt-ltb place 200 lt, post_complete m p x (r.next a) b h.1 k, e)
    plain_read yields rest nest place a b c h k lt e =
        rw (at_read (word (codes "yield")) nest place a h.0, opening_key on_yield, lt-ltb place 200 lt, ended_complete yields (r.next a) b h.1, e)
    plain_read zields rest nest place a b c h k lt e =
        rw (at_read (word (codes "zield")) nest place a h.0, opening_key on_zield, lt-ltb place 200 lt, ended_complete zields (r.next a) b h.1, e)

    -- A block in braces.
    inner_read : (s : Block) (nest place a b c : ℕ) → r.look a ≡ token (mark Open) → rec nest place (r.next a) ≡ ok s b → Reads r b (mark Close ∷ []) c → inner_block r rec (suc nest) place a ≡ ok s c
    unfolding inner_block
    inner_read s nest place a b c l e h =
        rw (l, e, expect_complete r (mark Close) b h.0) (ap (ok s) h.1)

    -- The rest of an if and of a while, from what its parts give.
    branch_read : (e : Expr) (s u rest : Block) (nest place a b c d x : ℕ) → place < 200 → r.look a ≡ token (word (codes "if")) → Reads r (r.next a) (spelt_expr e) b → r.look b ≡ token (mark Open) → KeepsExpr z.values z.globals e → inner_block r rec nest (suc place) b ≡ ok s c → r.look c ≡ token (word (codes "else")) → inner_block r rec nest (suc place + size s) (r.next c) ≡ ok u d → rec nest (suc place + size s + size u) d ≡ ok rest x → statement_at r z rec nest place a ≡ ok (branch e s u rest) x
    unfolding branch_rest
    branch_read e s u rest nest place a b c d x lt l h o k p q y w =
        rw (at_read (word (codes "if")) nest place a l, opening_key on_if, lt-ltb place 200 lt, expr_complete r z.values z.globals few e (r.next a) b h k (no_operator r (mark Open) b o open_none), p, expect_complete r (word (codes "else")) c q, y, w)

    loop_read : (e : Expr) (s rest : Block) (nest place a b c x : ℕ) → place < 200 → r.look a ≡ token (word (codes "while")) → Reads r (r.next a) (spelt_expr e) b → r.look b ≡ token (mark Open) → KeepsExpr z.values z.globals e → inner_block r rec nest (suc place) b ≡ ok s c → rec nest (suc place + size s) c ≡ ok rest x → statement_at r z rec nest place a ≡ ok (loop e s rest) x
    unfolding loop_rest
    loop_read e s rest nest place a b c x lt l h o k p w =
        rw (at_read (word (codes "while")) nest place a l, opening_key on_while, lt-ltb place 200 lt, expr_complete r z.values z.globals few e (r.next a) b h k (no_operator r (mark Open) b o open_none), p, w)

  statements_suc : (fuel nest place a : ℕ) → statements r z (suc fuel) nest place a ≡ statement_at r z (λ n p b. statements r z fuel n p b) nest place a
  unfolding statements
  statements_suc fuel nest place a = refl

  -- Statements that are spelt up to a closing brace are read, where places and fuel are left.
  pub statements_complete : (s : Block) (fuel nest place a b : ℕ) → Reads r a (spelt_block s) b → r.look b ≡ token (mark Close) → KeepsBlock z s nest → size s < fuel → place + size s ≤ 200 → statements r z fuel nest place a ≡ ok s b
  statements_complete s zero nest place a b h l k lt le = absurd (omega arith)
  statements_complete stop (suc fuel) nest place a b h l k lt le =
      rw (statements_suc fuel nest place a, h, at_read (λ n p c. statements r z fuel n p c) (mark Close) nest place b l, opening_close)
  statements_complete (plain s rest) (suc fuel) nest place a b h l k lt le =
      split r (spelt_plain s) (spelt_block rest) a b h
      (λ c p q. rw (statements_suc fuel nest place a) (plain_read (λ n y x. statements r z fuel n y x) s rest nest place a c b p k.0 (omega arith) (statements_complete rest fuel nest (suc place) c b q l k.1 (omega arith) (omega arith))))
  statements_complete (branch e s u rest) (suc fuel) zero place a b h l k lt le = absurd k.1
  statements_complete (branch e s u rest) (suc fuel) (suc nest) place a b h l k lt le =
      let els = word (codes "else") in
      split r (spelt_expr e) (braced (spelt_block s) ++ (els ∷ (braced (spelt_block u) ++ spelt_block rest))) (r.next a) b h.1
      (λ c p₁ q₁. split r (braced (spelt_block s)) (els ∷ (braced (spelt_block u) ++ spelt_block rest)) c b q₁
      (λ d p₂ q₂. split r (braced (spelt_block u)) (spelt_block rest) (r.next d) b q₂.1
      (λ x p₃ q₃. split r (spelt_block s) (mark Close ∷ []) (r.next c) d p₂.1
      (λ y p₄ q₄. split r (spelt_block u) (mark Close ∷ []) (r.next (r.next d)) x p₃.1
      (λ w p₅ q₅. let rec : Blocks = λ n v o. statements r z fuel n v o in
      rw (statements_suc fuel (suc nest) place a) (branch_read rec e s u rest (suc nest) place a c d x b (omega arith) h.0 p₁ p₂.0 k.0 (inner_read rec s nest (suc place) c y d p₂.0 (statements_complete s fuel nest (suc place) (r.next c) y p₄ q₄.0 k.1 (omega arith) (omega arith)) q₄) q₂.0 (inner_read rec u nest (suc place + size s) (r.next d) w x p₃.0 (statements_complete u fuel nest (suc place + size s) (r.next (r.next d)) w p₅ q₅.0 k.2 (omega arith) (omega arith)) q₅) (statements_complete rest fuel (suc nest) (suc place + size s + size u) x b q₃ l k.3 (omega arith) (omega arith))))))))
  statements_complete (loop e s rest) (suc fuel) zero place a b h l k lt le = absurd k.1
  statements_complete (loop e s rest) (suc fuel) (suc nest) place a b h l k lt le =
      split r (spelt_expr e) (braced (spelt_block s) ++ spelt_block rest) (r.next a) b h.1
      (λ c p₁ q₁. split r (braced (spelt_block s)) (spelt_block rest) c b q₁
      (λ d p₂ q₂. split r (spelt_block s) (mark Close ∷ []) (r.next c) d p₂.1
      (λ y p₄ q₄. let rec : Blocks = λ n v o. statements r z fuel n v o in
      rw (statements_suc fuel (suc nest) place a) (loop_read rec e s rest (suc nest) place a c d b (omega arith) h.0 p₁ p₂.0 k.0 (inner_read rec s nest (suc place) c y d p₂.0 (statements_complete s fuel nest (suc place) (r.next c) y p₄ q₄.0 k.1 (omega arith) (omega arith)) q₄) (statements_complete rest fuel (suc nest) (suc place + size s) d b q₂ l k.2 (omega arith) (omega arith))))))
