-- Statements and blocks are read as they are spelt.
use Rattle.std.proofs.Common.{◌≡◌, ℕ, zero, suc, ◌+◌, Bool, true, false, ltb, [], ◌∷◌, ◌++◌, Some, None, codes, Option, sym, refl, ap, ◌∙◌}
use Rattle.lexer.specs.Lexemes.{Lexeme, word, number, mark, token, Reader}
use Rattle.lexer.specs.declared.mark.Mark.TheVariants.{Open, Close, Semicolon, Becomes}
use Rattle.program.specs.declared.variable.Variable.{Variable}
use Rattle.grammar.specs.Tokens.{same, letters, variable_of, key_of, keys, key_letters, Key, on_skip, on_assume, on_if, on_while, on_call, on_return, on_post, on_yield, on_zield}
use Rattle.grammar.specs.Sources.{Expr, Plain, skips, assigns, assumes, calls, returns, posts, yields, zields, Block, stop, plain, branch, loop, size, Sizes}
use Rattle.grammar.specs.Spelling.{spelt_expr, closed, spelt_plain, braced, spelt_block}
use Rattle.grammar.specs.Rules.{Ranged, Inner, KeepsExpr, KeepsPlain, KeepsBlock}
use Rattle.grammar.specs.Results.{Outcome, ok, then, guard, expect, Reads}
use Rattle.grammar.specs.ReadExpr.{ranged, a_variable, a_number, a_name, an_expr}
use Rattle.grammar.specs.ReadBlock.{Opening, begins, sets, closes, nothing, opened_by, opening, ended, ended_expr, set_rest, call_rest, post_rest, Blocks, deeper, inner_block, followed, branch_rest, loop_rest, keyed, statement_from, statement_at, statements}
use Rattle.grammar.proofs.Joining.{then_ok, guard_ok, seeing_ok, ok_piece, same_equal, picked, join, expect_sound}
use Rattle.grammar.proofs.Telling.{variable_told, ranged_true, a_variable_sound, a_number_sound, a_name_sound}
use Rattle.grammar.proofs.Expressions.{expr_sound}

-- What a statement begins with, told from its token.
abbrev Opens : Lexeme → Opening → Type 0
Opens t (begins k) = t ≡ word (key_letters k)
Opens t (sets v) = t ≡ word (letters v)
Opens t closes = t ≡ mark Close
Opens t nothing = Unit {0}

key_told : (t : Lexeme) (k : Key) → key_of t ≡ Some k → t ≡ word (key_letters k)
unfolding key_of
key_told t k e = same_equal t (word (key_letters k)) (picked (λ x. same t (word (key_letters x))) keys k e)

opened_told : (t : Lexeme) (k : Option Key) (v : Option Variable) (c : Bool) → key_of t ≡ k → variable_of t ≡ v → same t (mark Close) ≡ c → Opens t (opened_by k v c)
opened_told t (Some k) v c p q x = key_told t k p
opened_told t None (Some v) c p q x = variable_told t v q
opened_told t None None true p q x = same_equal t (mark Close) x
opened_told t None None false p q x = tt

opening_told : (t : Lexeme) → Opens t (opening t)
unfolding opening
opening_told t = opened_told t (key_of t) (variable_of t) (same t (mark Close)) refl refl refl

-- What is read one further in, where there is a level.
pub deeper_ok : {A G : Type 0} (n a : ℕ) (f : ℕ → Outcome A) (s : A) (b : ℕ) → deeper n a f ≡ ok s b → ((m : ℕ) → n ≡ suc m → f m ≡ ok s b → G) → G
deeper_ok zero a f s b e k = cc
deeper_ok (suc n) a f s b e k = k n refl e

module _ (r : Reader) (z : Sizes) where
  -- The rest of a statement, after the tokens that were read.
  ended_sound : (s t : Plain) (a b : ℕ) → ended r s a ≡ ok t b → (s ≡ t) × Reads r a (mark Semicolon ∷ []) b
  unfolding ended
  ended_sound s t a b e =
      then_ok (expect r (mark Semicolon) a) (λ _ c. ok s c) t b e
      (λ x c f h. let p = ok_piece s t c b h in
      (p.0, rw (sym p.1) (expect_sound r (mark Semicolon) a c x f)))

  ended_expr_sound : {G : Type 0} (f : Expr → Plain) (t : Plain) (a b : ℕ) → ended_expr r z f a ≡ ok t b → ((e : Expr) → f e ≡ t → Reads r a (closed e) b → KeepsExpr z.values z.globals e → G) → G
  unfolding ended_expr
  ended_expr_sound f t a b h k =
      then_ok (an_expr r z.values z.globals a) (λ e c. ended r (f e) c) t b h
      (λ e c p q. let x = expr_sound r z.values z.globals e a c p in
      let y = ended_sound (f e) t c b q in
      k e y.0 (join r (spelt_expr e) (mark Semicolon ∷ []) a c b x.0 y.1) x.1)

  -- A statement without blocks, of which the first token was met before a.
  abbrev Rest : Lexeme → ℕ → Plain → ℕ → Type 0
  Rest t a s b = ((a₀ : ℕ) → r.look a₀ ≡ token t → r.next a₀ ≡ a → Reads r a₀ (spelt_plain s) b) × KeepsPlain z s

  bare_sound : (s t : Plain) (w : Lexeme) (a b : ℕ) → spelt_plain s ≡ w ∷ mark Semicolon ∷ [] → KeepsPlain z s → ended r s a ≡ ok t b → Rest w a t b
  bare_sound s t w a b sp k e =
      let p = ended_sound s t a b e in
      rw (sym p.0) (λ a₀ l n. rw sp (l, rw n p.1), k)

  set_sound : (v : Variable) (t : Plain) (a b : ℕ) → Ranged z.globals v → set_rest r z v a ≡ ok t b → Rest (word (letters v)) a t b
  unfolding set_rest
  set_sound v t a b k e =
      then_ok (expect r (mark Becomes) a) (λ _ c. ended_expr r z (λ x. assigns v x) c) t b e
      (λ x c f h. ended_expr_sound (λ y. assigns v y) t c b h
      (λ y p q m. rw (sym p) (λ a₀ l n. (l, rw n (join r (mark Becomes ∷ []) (closed y) a c b (expect_sound r (mark Becomes) a c x f) q)), (k, m))))

  assume_sound : (t : Plain) (a b : ℕ) → ended_expr r z (λ x. assumes x) a ≡ ok t b → Rest (word (codes "assume")) a t b
  assume_sound t a b e =
      ended_expr_sound (λ y. assumes y) t a b e
      (λ y p q m. rw (sym p) (λ a₀ l n. (l, rw n q), m))

  return_sound : (t : Plain) (a b : ℕ) → ended_expr r z (λ x. returns x) a ≡ ok t b → Rest (word (codes "return")) a t b
  return_sound t a b e =
      ended_expr_sound (λ y. returns y) t a b e
      (λ y p q m. rw (sym p) (λ a₀ l n. (l, rw n q), m))

  call_sound : (t : Plain) (a b : ℕ) → call_rest r z a ≡ ok t b → Rest (word (codes "call")) a t b
  unfolding call_rest
  call_sound t a b e =
      then_ok (a_variable r z.globals a) (λ v c. then (expect r (mark Becomes) c) (λ _ d. then (a_name r d) (λ p x. ended_expr r z (λ y. calls v p y) x))) t b e
      (λ v c f h. then_ok (expect r (mark Becomes) c) (λ _ d. then (a_name r d) (λ p x. ended_expr r z (λ y. calls v p y) x)) t b h
      (λ u d f₁ h₁. then_ok (a_name r d) (λ p x. ended_expr r z (λ y. calls v p y) x) t b h₁
      (λ p x f₂ h₂. ended_expr_sound (λ y. calls v p y) t x b h₂
      (λ y g q m. let i = a_variable_sound r z.globals a c v f in
      let j = expect_sound r (mark Becomes) c d u f₁ in
      let k = a_name_sound r d x p f₂ in
      rw (sym g) (λ a₀ l n. (l, rw n (join r (word (letters v) ∷ []) (mark Becomes ∷ word p ∷ closed y) a c b i.0 (join r (mark Becomes ∷ []) (word p ∷ closed y) c d b j (join r (word p ∷ []) (closed y) d x b k.0 q)))), (i.1, k.1, m))))))

  post_sound : (t : Plain) (a b : ℕ) → post_rest r z a ≡ ok t b → Rest (word (codes "post")) a t b
  unfolding post_rest
  post_sound t a b e =
      then_ok (a_number r z.levels a) (λ v c. then (a_name r c) (λ p x. ended_expr r z (λ y. posts v p y) x)) t b e
      (λ v c f h. then_ok (a_name r c) (λ p x. ended_expr r z (λ y. posts v p y) x) t b h
      (λ p x f₂ h₂. ended_expr_sound (λ y. posts v p y) t x b h₂
      (λ y g q m. let i = a_number_sound r z.levels a c v f in
      let k = a_name_sound r c x p f₂ in
      rw (sym g) (λ a₀ l n. (l, rw n (join r (number v ∷ []) (word p ∷ closed y) a c b i.0 (join r (word p ∷ []) (closed y) c x b k.0 q))), (i.1, k.1, m)))))

  -- A reader of blocks that takes what is spelt.
  abbrev FairBlocks : Blocks → Type 0
  FairBlocks rec = (nest place a b : ℕ) (s : Block) → rec nest place a ≡ ok s b → Reads r a (spelt_block s) b × KeepsBlock z s nest

  module _ (rec : Blocks) (fair : FairBlocks rec) where
    inner_sound : (nest place a b : ℕ) (s : Block) → inner_block r rec nest place a ≡ ok s b → Reads r a (braced (spelt_block s)) b × Inner nest (λ m. KeepsBlock z s m)
    unfolding inner_block
    inner_sound nest place a b s e =
        seeing_ok r a (λ t. guard (same t (mark Open)) 3 a (deeper nest a (λ m. then (rec m place (r.next a)) (λ u c. then (expect r (mark Close) c) (λ _ d. ok u d))))) s b e
        (λ t l f. guard_ok (same t (mark Open)) 3 a (deeper nest a (λ m. then (rec m place (r.next a)) (λ u c. then (expect r (mark Close) c) (λ _ d. ok u d)))) s b f
        (λ q g. deeper_ok nest a (λ m. then (rec m place (r.next a)) (λ u c. then (expect r (mark Close) c) (λ _ d. ok u d))) s b g
        (λ m n h. then_ok (rec m place (r.next a)) (λ u c. then (expect r (mark Close) c) (λ _ d. ok u d)) s b h
        (λ u c f₁ h₁. then_ok (expect r (mark Close) c) (λ _ d. ok u d) s b h₁
        (λ x d f₂ h₂. let p = ok_piece u s d b h₂ in
        let i = fair m place (r.next a) c u f₁ in
        rw (sym p.0, sym p.1, n) ((l ∙ ap token (same_equal t (mark Open) q), join r (spelt_block u) (mark Close ∷ []) (r.next a) c d i.0 (expect_sound r (mark Close) c d x f₂)), i.1))))))

    -- What follows a statement whose first token was met at a.
    followed_sound : (p : Outcome Plain) (t : Lexeme) (nest place a b : ℕ) (s : Block) → r.look a ≡ token t → ((u : Plain) (c : ℕ) → p ≡ ok u c → Rest t (r.next a) u c) → followed p (λ c. rec nest (suc place) c) ≡ ok s b → Reads r a (spelt_block s) b × KeepsBlock z s nest
    followed_sound p t nest place a b s l sound e =
        then_ok p (λ u c. then (rec nest (suc place) c) (λ rest d. ok (plain u rest) d)) s b e
        (λ u c f h. then_ok (rec nest (suc place) c) (λ rest d. ok (plain u rest) d) s b h
        (λ rest d f₁ h₁. let q = ok_piece (plain u rest) s d b h₁ in
        let i = sound u c f in
        let j = fair nest (suc place) c d rest f₁ in
        rw (sym q.0, sym q.1) (join r (spelt_plain u) (spelt_block rest) a c d (i.0 a l refl) j.0, (i.1, j.1))))

    branch_sound : (nest place a b : ℕ) (s : Block) → r.look a ≡ token (word (codes "if")) → branch_rest r z rec nest place (r.next a) ≡ ok s b → Reads r a (spelt_block s) b × KeepsBlock z s nest
    unfolding branch_rest
    branch_sound nest place a b s l h =
        let els = word (codes "else") in
        then_ok (an_expr r z.values z.globals (r.next a)) (λ e c. then (inner_block r rec nest (suc place) c) (λ u d. then (expect r els d) (λ _ x. then (inner_block r rec nest (suc place + size u) x) (λ v y. then (rec nest (suc place + size u + size v) y) (λ rest w. ok (branch e u v rest) w))))) s b h
        (λ e c f₁ h₁. then_ok (inner_block r rec nest (suc place) c) (λ u d. then (expect r els d) (λ _ x. then (inner_block r rec nest (suc place + size u) x) (λ v y. then (rec nest (suc place + size u + size v) y) (λ rest w. ok (branch e u v rest) w)))) s b h₁
        (λ u d f₂ h₂. then_ok (expect r els d) (λ _ x. then (inner_block r rec nest (suc place + size u) x) (λ v y. then (rec nest (suc place + size u + size v) y) (λ rest w. ok (branch e u v rest) w))) s b h₂
        (λ o x f₃ h₃. then_ok (inner_block r rec nest (suc place + size u) x) (λ v y. then (rec nest (suc place + size u + size v) y) (λ rest w. ok (branch e u v rest) w)) s b h₃
        (λ v y f₄ h₄. then_ok (rec nest (suc place + size u + size v) y) (λ rest w. ok (branch e u v rest) w) s b h₄
        (λ rest w f₅ h₅. let q = ok_piece (branch e u v rest) s w b h₅ in
        let i₁ = expr_sound r z.values z.globals e (r.next a) c f₁ in
        let i₂ = inner_sound nest (suc place) c d u f₂ in
        let i₃ = expect_sound r els d x o f₃ in
        let i₄ = inner_sound nest (suc place + size u) x y v f₄ in
        let i₅ = fair nest (suc place + size u + size v) y w rest f₅ in
        let j₄ = join r (braced (spelt_block v)) (spelt_block rest) x y w i₄.0 i₅.0 in
        let j₃ = join r (els ∷ []) (braced (spelt_block v) ++ spelt_block rest) d x w i₃ j₄ in
        let j₂ = join r (braced (spelt_block u)) (els ∷ (braced (spelt_block v) ++ spelt_block rest)) c d w i₂.0 j₃ in
        rw (sym q.0, sym q.1) ((l, join r (spelt_expr e) (braced (spelt_block u) ++ (els ∷ (braced (spelt_block v) ++ spelt_block rest))) (r.next a) c w i₁.0 j₂), (i₁.1, i₂.1, i₄.1, i₅.1)))))))

    loop_sound : (nest place a b : ℕ) (s : Block) → r.look a ≡ token (word (codes "while")) → loop_rest r z rec nest place (r.next a) ≡ ok s b → Reads r a (spelt_block s) b × KeepsBlock z s nest
    unfolding loop_rest
    loop_sound nest place a b s l h =
        then_ok (an_expr r z.values z.globals (r.next a)) (λ e c. then (inner_block r rec nest (suc place) c) (λ u d. then (rec nest (suc place + size u) d) (λ rest w. ok (loop e u rest) w))) s b h
        (λ e c f₁ h₁. then_ok (inner_block r rec nest (suc place) c) (λ u d. then (rec nest (suc place + size u) d) (λ rest w. ok (loop e u rest) w)) s b h₁
        (λ u d f₂ h₂. then_ok (rec nest (suc place + size u) d) (λ rest w. ok (loop e u rest) w) s b h₂
        (λ rest w f₅ h₅. let q = ok_piece (loop e u rest) s w b h₅ in
        let i₁ = expr_sound r z.values z.globals e (r.next a) c f₁ in
        let i₂ = inner_sound nest (suc place) c d u f₂ in
        let i₅ = fair nest (suc place + size u) d w rest f₅ in
        let j₂ = join r (braced (spelt_block u)) (spelt_block rest) c d w i₂.0 i₅.0 in
        rw (sym q.0, sym q.1) ((l, join r (spelt_expr e) (braced (spelt_block u) ++ spelt_block rest) (r.next a) c w i₁.0 j₂), (i₁.1, i₂.1, i₅.1)))))

    keyed_sound : (nest place a b : ℕ) (s : Block) (k : Key) → r.look a ≡ token (word (key_letters k)) → keyed r z rec nest place (r.next a) k ≡ ok s b → Reads r a (spelt_block s) b × KeepsBlock z s nest
    keyed_sound nest place a b s on_skip l h =
        followed_sound (ended r skips (r.next a)) (word (codes "skip")) nest place a b s l
        (λ u c f. bare_sound skips u (word (codes "skip")) (r.next a) c refl tt f) h
    keyed_sound nest place a b s on_assume l h =
        followed_sound (ended_expr r z (λ e. assumes e) (r.next a)) (word (codes "assume")) nest place a b s l
        (λ u c f. assume_sound u (r.next a) c f) h
    keyed_sound nest place a b s on_if l h = branch_sound nest place a b s l h
    keyed_sound nest place a b s on_while l h = loop_sound nest place a b s l h
    keyed_sound nest place a b s on_call l h =
        followed_sound (call_rest r z (r.next a)) (word (codes "call")) nest place a b s l
        (λ u c f. call_sound u (r.next a) c f) h
    keyed_sound nest place a b s on_return l h =
        followed_sound (ended_expr r z (λ e. returns e) (r.next a)) (word (codes "return")) nest place a b s l
        (λ u c f. return_sound u (r.next a) c f) h
    keyed_sound nest place a b s on_post l h =
        followed_sound (post_rest r z (r.next a)) (word (codes "post")) nest place a b s l
        (λ u c f. post_sound u (r.next a) c f) h
    keyed_sound nest place a b s on_yield l h =
        followed_sound (ended r yields (r.next a)) (word (codes "yield")) nest place a b s l
        (λ u c f. bare_sound yields u (word (codes "yield")) (r.next a) c refl tt f) h
    keyed_sound nest place a b s on_zield l h =
        followed_sound (ended r zields (r.next a)) (word (codes "zield")) nest place a b s l
        (λ u c f. bare_sound zields u (word (codes "zield")) (r.next a) c refl tt f) h

    from_sound : (nest place a b : ℕ) (s : Block) (t : Lexeme) (o : Opening) → r.look a ≡ token t → Opens t o → statement_from r z rec nest place a o ≡ ok s b → Reads r a (spelt_block s) b × KeepsBlock z s nest
    from_sound nest place a b s t (begins k) l m h =
        guard_ok (ltb place 200) 7 a (keyed r z rec nest place (r.next a) k) s b h
        (λ q f. keyed_sound nest place a b s k (l ∙ ap token m) f)
    from_sound nest place a b s t (sets v) l m h =
        guard_ok (ranged z.globals v) 4 a (guard (ltb place 200) 7 a (followed (set_rest r z v (r.next a)) (λ c. rec nest (suc place) c))) s b h
        (λ q f. guard_ok (ltb place 200) 7 a (followed (set_rest r z v (r.next a)) (λ c. rec nest (suc place) c)) s b f
        (λ q₁ f₁. followed_sound (set_rest r z v (r.next a)) (word (letters v)) nest place a b s (l ∙ ap token m)
        (λ u c g. set_sound v u (r.next a) c (ranged_true z.globals v q) g) f₁))
    from_sound nest place a b s t closes l m h =
        let p = ok_piece stop s a b h in rw (sym p.0) (p.1, tt)
    from_sound nest place a b s t nothing l m h = cc

    at_sound : FairBlocks (statement_at r z rec)
    unfolding statement_at
    at_sound nest place a b s e =
        seeing_ok r a (λ t. statement_from r z rec nest place a (opening t)) s b e
        (λ t l f. from_sound nest place a b s t (opening t) l (opening_told t) f)

  -- Statements that are read are spelt there, and keep the rules.
  pub statements_sound : (fuel : ℕ) → FairBlocks (statements r z fuel)
  unfolding statements
  statements_sound zero nest place a b s e = cc
  statements_sound (suc fuel) nest place a b s e =
      at_sound (λ n p c. statements r z fuel n p c) (statements_sound fuel) nest place a b s e
