-- The parts of a text are read as they are spelt: sizes, bodies, procedures, mains, values, the goal and bounds.
use Rattle.std.proofs.Common.{◌≡◌, ℕ, zero, suc, ◌+◌, ◌<◌, ◌≤◌, Bool, true, false, cond, not, ◌&&◌, eqb, ltb, leb, List, [], ◌∷◌, ◌++◌, length, Some, None, codes, Option, sym, refl, ap, ◌∙◌, arith}
use Rattle.std.specs.List.{list_any}
use Rattle.std.specs.Str.{bytes_eq}
use Rattle.std.proofs.lemmas.Slice.Eq.{bytes_eq-Decides}
use Rattle.std.proofs.lemmas.Bool.{ltb-true, leb-true, eqb-true, and_parts, not-true}
use Rattle.lexer.specs.Lexemes.{Lexeme, word, number, mark, end, token, Reader}
use Rattle.lexer.specs.declared.mark.Mark.TheVariants.{Open, Close, Any}
use Rattle.program.specs.declared.kind.Kind.{Kind}
use Rattle.program.specs.Kinds.{kind_named}
use Rattle.program.specs.KindLaws.{worded}
use Rattle.grammar.specs.Tokens.{same, value, digits_of, reserved, Limit, of_delay, of_kind, limit_letters, as_limit, limit_of}
use Rattle.grammar.specs.Sources.{Block, size, Procedure, Main, Bound, Aim, exactly, anything, Sizes, procedure_places, main_places}
use Rattle.grammar.specs.Spelling.{braced, spelt_block, spelt_procedures, spelt_mains, spelt_values, spelt_aim, spelt_aims, spelt_bounds}
use Rattle.grammar.specs.Rules.{KeepsBlock, KeepsProcedures, KeepsMains, KeepsValues, KeepsAim, KeepsAims, KeepsBounds, Within}
use Rattle.grammar.specs.Results.{ok, then, guard, need, expect, Reads}
use Rattle.grammar.specs.ReadExpr.{a_number, a_name}
use Rattle.grammar.specs.ReadBlock.{statements}
use Rattle.grammar.specs.ReadText.{between, sized, exactly_number, a_body, new_name, some_procedures, some_mains, some_values, an_aim, some_aims, a_limit, some_bounds}
use Rattle.grammar.proofs.Joining.{then_ok, guard_ok, need_ok, seeing_ok, ok_piece, same_equal, join, expect_sound}
use Rattle.grammar.proofs.Telling.{digits_told, a_number_sound, a_name_sound}
use Rattle.grammar.proofs.Blocks.{statements_sound}

-- What a bound bounds, told from its token.
kind_told : (w : List ℕ) (o : Option Kind) (k : Limit) → kind_named w ≡ o → as_limit o ≡ Some k → w ≡ limit_letters k
kind_told w (Some x) k e h =
    let one : of_kind x ≡ k = cc in (worded w x).0 e ∙ ap limit_letters one
kind_told w None k e h = cc

limit_if : (w : List ℕ) (b : Bool) (k : Limit) → bytes_eq w (codes "delay") ≡ b → cond b (Some of_delay) (as_limit (kind_named w)) ≡ Some k → w ≡ limit_letters k
limit_if w true k e h =
    let one : of_delay ≡ k = cc in (bytes_eq-Decides w (codes "delay")).0 e ∙ ap limit_letters one
limit_if w false k e h = kind_told w (kind_named w) k refl h

pub limit_told : (t : Lexeme) (k : Limit) → limit_of t ≡ Some k → t ≡ word (limit_letters k)
unfolding limit_of
limit_told (word w) k e = ap word (limit_if w (bytes_eq w (codes "delay")) k refl e)
limit_told (number x) k e = cc
limit_told (mark m) k e = cc
limit_told end k e = cc

module _ (r : Reader) where
  a_limit_sound : (k : Limit) (a b : ℕ) → a_limit r a ≡ ok k b → Reads r a (word (limit_letters k) ∷ []) b
  unfolding a_limit
  a_limit_sound k a b e =
      seeing_ok r a (λ t. need (limit_of t) a (λ x. ok x (r.next a))) k b e
      (λ t l f. need_ok (limit_of t) a (λ x. ok x (r.next a)) k b f
      (λ x p h. let q = ok_piece x k (r.next a) b h in
      (l ∙ ap token (limit_told t x p ∙ ap (λ y. word (limit_letters y)) q.0), q.1)))

  between_sound : (low high a b : ℕ) (ds : List ℕ) → between r low high a ≡ ok ds b → Reads r a (number ds ∷ []) b × Within low high ds
  unfolding between
  between_sound low high a b ds e =
      seeing_ok r a (λ t. need (digits_of t) a (λ x. guard (leb low (value x) && leb (value x) high) 4 a (ok x (r.next a)))) ds b e
      (λ t l f. need_ok (digits_of t) a (λ x. guard (leb low (value x) && leb (value x) high) 4 a (ok x (r.next a))) ds b f
      (λ x p g. guard_ok (leb low (value x) && leb (value x) high) 4 a (ok x (r.next a)) ds b g
      (λ q h. let k = ok_piece x ds (r.next a) b h in
      let m = and_parts (leb low (value x)) (leb (value x) high) q in
      ((l ∙ ap token (digits_told t x p ∙ ap number k.0), k.1), rw (sym k.0) (record { least = leb-true low (value x) m.0; most = leb-true (value x) high m.1 })))))

  pub sized_sound : (w : List ℕ) (low high a b : ℕ) (ds : List ℕ) → sized r w low high a ≡ ok ds b → Reads r a (word w ∷ number ds ∷ []) b × Within low high ds
  unfolding sized
  sized_sound w low high a b ds e =
      then_ok (expect r (word w) a) (λ _ c. between r low high c) ds b e
      (λ x c f h. let k = between_sound low high c b ds h in
      (join r (word w ∷ []) (number ds ∷ []) a c b (expect_sound r (word w) a c x f) k.0, k.1))

  exactly_sound : (n a b : ℕ) (ds : List ℕ) → exactly_number r n a ≡ ok ds b → Reads r a (number ds ∷ []) b × (value ds ≡ n)
  unfolding exactly_number
  exactly_sound n a b ds e =
      seeing_ok r a (λ t. need (digits_of t) a (λ x. guard (eqb (value x) n) 4 a (ok x (r.next a)))) ds b e
      (λ t l f. need_ok (digits_of t) a (λ x. guard (eqb (value x) n) 4 a (ok x (r.next a))) ds b f
      (λ x p g. guard_ok (eqb (value x) n) 4 a (ok x (r.next a)) ds b g
      (λ q h. let k = ok_piece x ds (r.next a) b h in
      ((l ∙ ap token (digits_told t x p ∙ ap number k.0), k.1), rw (sym k.0) (eqb-true (value x) n q)))))

  body_sound : (z : Sizes) (place a b : ℕ) (s : Block) → a_body r z place a ≡ ok s b → Reads r a (braced (spelt_block s)) b × KeepsBlock z s 7 × (place + size s < 200)
  unfolding a_body
  body_sound z place a b s e =
      then_ok (expect r (mark Open) a) (λ _ c. then (statements r z 201 7 place c) (λ u d. guard (ltb (place + size u) 200) 7 d (then (expect r (mark Close) d) (λ _ x. ok u x)))) s b e
      (λ o c f h. then_ok (statements r z 201 7 place c) (λ u d. guard (ltb (place + size u) 200) 7 d (then (expect r (mark Close) d) (λ _ x. ok u x))) s b h
      (λ u d f₁ h₁. guard_ok (ltb (place + size u) 200) 7 d (then (expect r (mark Close) d) (λ _ x. ok u x)) s b h₁
      (λ q h₂. then_ok (expect r (mark Close) d) (λ _ x. ok u x) s b h₂
      (λ y x f₃ h₃. let p = ok_piece u s x b h₃ in
      let i = statements_sound r z 201 7 place c d u f₁ in
      let j = join r (spelt_block u) (mark Close ∷ []) c d x i.0 (expect_sound r (mark Close) d x y f₃) in
      rw (sym p.0, sym p.1) (join r (mark Open ∷ []) (spelt_block u ++ (mark Close ∷ [])) a c x (expect_sound r (mark Open) a c o f) j, i.1, ltb-true (place + size u) 200 q)))))

  new_name_sound : (names : List (List ℕ)) (a b : ℕ) (w : List ℕ) → new_name r names a ≡ ok w b → Reads r a (word w ∷ []) b × (reserved w ≡ false) × (list_any (bytes_eq w) names ≡ false)
  unfolding new_name
  new_name_sound names a b w e =
      then_ok (a_name r a) (λ u c. guard (not (list_any (bytes_eq u) names)) 5 a (ok u c)) w b e
      (λ u c f h. guard_ok (not (list_any (bytes_eq u) names)) 5 a (ok u c) w b h
      (λ q g. let p = ok_piece u w c b g in
      let i = a_name_sound r a c u f in
      rw (sym p.0, sym p.1) (i.0, i.1, not-true (list_any (bytes_eq u) names) q)))

  -- Procedures, with the rules, the count and the places.
  abbrev Procedures : Sizes → ℕ → List (List ℕ) → ℕ → ℕ → ℕ → List Procedure → Type 0
  Procedures z room names place a b ps = Reads r a (spelt_procedures ps) b × KeepsProcedures z names ps × (length ps ≤ room) × (place + procedure_places ps ≤ 200)

  no_procedures : (z : Sizes) (room : ℕ) (names : List (List ℕ)) (place a b : ℕ) (ps : List Procedure) → place ≤ 200 → ok [] a ≡ ok ps b → Procedures z room names place a b ps
  no_procedures z room names place a b ps le e =
      let p = ok_piece [] ps a b e in
      rw (sym p.0) (p.1, tt, omega arith, omega arith)

  procedures_if : (z : Sizes) (room : ℕ) (names : List (List ℕ)) (place a b : ℕ) (ps : List Procedure) (t : Lexeme) (q : Bool) → place ≤ 200 → r.look a ≡ token t → same t (word (codes "proc")) ≡ q → ((ns : List (List ℕ)) (o x y : ℕ) (us : List Procedure) → o ≤ 200 → some_procedures r z room ns o x ≡ ok us y → Procedures z room ns o x y us) → cond q (then (new_name r names (r.next a)) (λ w c. then (a_body r z place c) (λ s d. then (some_procedures r z room (names ++ (w ∷ [])) (suc (place + size s)) d) (λ rest x. ok (record { name = w; body = s } ∷ rest) x)))) (ok [] a) ≡ ok ps b → Procedures z (suc room) names place a b ps
  procedures_if z room names place a b ps t false le l m rec e = no_procedures z (suc room) names place a b ps le e
  procedures_if z room names place a b ps t true le l m rec e =
      then_ok (new_name r names (r.next a)) (λ w c. then (a_body r z place c) (λ s d. then (some_procedures r z room (names ++ (w ∷ [])) (suc (place + size s)) d) (λ rest x. ok (record { name = w; body = s } ∷ rest) x))) ps b e
      (λ w c f h. then_ok (a_body r z place c) (λ s d. then (some_procedures r z room (names ++ (w ∷ [])) (suc (place + size s)) d) (λ rest x. ok (record { name = w; body = s } ∷ rest) x)) ps b h
      (λ s d f₁ h₁. then_ok (some_procedures r z room (names ++ (w ∷ [])) (suc (place + size s)) d) (λ rest x. ok (record { name = w; body = s } ∷ rest) x) ps b h₁
      (λ rest x f₂ h₂. let p = ok_piece (record { name = w; body = s } ∷ rest) ps x b h₂ in
      let i = new_name_sound names (r.next a) c w f in
      let j = body_sound z place c d s f₁ in
      let lt = j.2 in
      let k = rec (names ++ (w ∷ [])) (suc (place + size s)) d x rest (omega arith) f₂ in
      let few = k.2 in
      let fits = k.3 in
      let g = join r (braced (spelt_block s)) (spelt_procedures rest) c d x j.0 k.0 in
      rw (sym p.0, sym p.1) ((l ∙ ap token (same_equal t (word (codes "proc")) m), join r (word w ∷ []) (braced (spelt_block s) ++ spelt_procedures rest) (r.next a) c x i.0 g), (i.1, i.2, j.1, k.1), omega arith, omega arith))))

  pub procedures_sound : (z : Sizes) (room : ℕ) (names : List (List ℕ)) (place a b : ℕ) (ps : List Procedure) → place ≤ 200 → some_procedures r z room names place a ≡ ok ps b → Procedures z room names place a b ps
  unfolding some_procedures
  procedures_sound z zero names place a b ps le e =
      seeing_ok r a (λ t. guard (not (same t (word (codes "proc")))) 7 a (ok [] a)) ps b e
      (λ t l f. guard_ok (not (same t (word (codes "proc")))) 7 a (ok [] a) ps b f
      (λ q g. no_procedures z zero names place a b ps le g))
  procedures_sound z (suc room) names place a b ps le e =
      seeing_ok r a (λ t. cond (same t (word (codes "proc"))) (then (new_name r names (r.next a)) (λ w c. then (a_body r z place c) (λ s d. then (some_procedures r z room (names ++ (w ∷ [])) (suc (place + size s)) d) (λ rest x. ok (record { name = w; body = s } ∷ rest) x)))) (ok [] a)) ps b e
      (λ t l f. procedures_if z room names place a b ps t (same t (word (codes "proc"))) le l refl (procedures_sound z room) f)

  -- Mains.
  pub mains_sound : (z : Sizes) (left n place a b : ℕ) (ms : List Main) → place ≤ 200 → some_mains r z left n place a ≡ ok ms b → Reads r a (spelt_mains ms) b × KeepsMains z n ms × (length ms ≡ left) × (place + main_places ms ≤ 200)
  unfolding some_mains
  mains_sound z zero n place a b ms le e =
      let p = ok_piece [] ms a b e in
      rw (sym p.0) (p.1, tt, refl, omega arith)
  mains_sound z (suc left) n place a b ms le e =
      let main = word (codes "main") in
      then_ok (expect r main a) (λ _ y. then (exactly_number r n y) (λ ds c. then (a_body r z place c) (λ s d. then (some_mains r z left (suc n) (suc (place + size s)) d) (λ rest x. ok (record { number = ds; body = s } ∷ rest) x)))) ms b e
      (λ o y f₀ h₀. then_ok (exactly_number r n y) (λ ds c. then (a_body r z place c) (λ s d. then (some_mains r z left (suc n) (suc (place + size s)) d) (λ rest x. ok (record { number = ds; body = s } ∷ rest) x))) ms b h₀
      (λ ds c f h. then_ok (a_body r z place c) (λ s d. then (some_mains r z left (suc n) (suc (place + size s)) d) (λ rest x. ok (record { number = ds; body = s } ∷ rest) x)) ms b h
      (λ s d f₁ h₁. then_ok (some_mains r z left (suc n) (suc (place + size s)) d) (λ rest x. ok (record { number = ds; body = s } ∷ rest) x) ms b h₁
      (λ rest x f₂ h₂. let p = ok_piece (record { number = ds; body = s } ∷ rest) ms x b h₂ in
      let i = exactly_sound n y c ds f in
      let j = body_sound z place c d s f₁ in
      let lt = j.2 in
      let k = mains_sound z left (suc n) (suc (place + size s)) d x rest (omega arith) f₂ in
      let fits = k.3 in
      let g = join r (braced (spelt_block s)) (spelt_mains rest) c d x j.0 k.0 in
      rw (sym p.0, sym p.1) (join r (main ∷ []) (number ds ∷ (braced (spelt_block s) ++ spelt_mains rest)) a y x (expect_sound r main a y o f₀) (join r (number ds ∷ []) (braced (spelt_block s) ++ spelt_mains rest) y c x i.0 g), (i.1, j.1, k.1), ap suc k.2, omega arith)))))

  -- Values and the goal.
  pub values_sound : (values left a b : ℕ) (xs : List (List ℕ)) → some_values r values left a ≡ ok xs b → Reads r a (spelt_values xs) b × KeepsValues values xs × (length xs ≡ left)
  unfolding some_values
  values_sound values zero a b xs e =
      let p = ok_piece [] xs a b e in rw (sym p.0) (p.1, tt, refl)
  values_sound values (suc left) a b xs e =
      then_ok (a_number r values a) (λ ds c. then (some_values r values left c) (λ rest d. ok (ds ∷ rest) d)) xs b e
      (λ ds c f h. then_ok (some_values r values left c) (λ rest d. ok (ds ∷ rest) d) xs b h
      (λ rest d f₁ h₁. let p = ok_piece (ds ∷ rest) xs d b h₁ in
      let i = a_number_sound r values a c ds f in
      let j = values_sound values left c d rest f₁ in
      rw (sym p.0, sym p.1) (join r (number ds ∷ []) (spelt_values rest) a c d i.0 j.0, (i.1, j.1), ap suc j.2)))

  aim_if : (values a b : ℕ) (x : Aim) (t : Lexeme) (q : Bool) → r.look a ≡ token t → same t (mark Any) ≡ q → cond q (ok anything (r.next a)) (then (a_number r values a) (λ ds c. ok (exactly ds) c)) ≡ ok x b → Reads r a (spelt_aim x ∷ []) b × KeepsAim values x
  aim_if values a b x t true l m e =
      let p = ok_piece anything x (r.next a) b e in
      rw (sym p.0) ((l ∙ ap token (same_equal t (mark Any) m), p.1), tt)
  aim_if values a b x t false l m e =
      then_ok (a_number r values a) (λ ds c. ok (exactly ds) c) x b e
      (λ ds c f h. let p = ok_piece (exactly ds) x c b h in
      rw (sym p.0, sym p.1) (a_number_sound r values a c ds f))

  aim_sound : (values a b : ℕ) (x : Aim) → an_aim r values a ≡ ok x b → Reads r a (spelt_aim x ∷ []) b × KeepsAim values x
  unfolding an_aim
  aim_sound values a b x e =
      seeing_ok r a (λ t. cond (same t (mark Any)) (ok anything (r.next a)) (then (a_number r values a) (λ ds c. ok (exactly ds) c))) x b e
      (λ t l f. aim_if values a b x t (same t (mark Any)) l refl f)

  pub aims_sound : (values left a b : ℕ) (xs : List Aim) → some_aims r values left a ≡ ok xs b → Reads r a (spelt_aims xs) b × KeepsAims values xs × (length xs ≡ left)
  unfolding some_aims
  aims_sound values zero a b xs e =
      let p = ok_piece [] xs a b e in rw (sym p.0) (p.1, tt, refl)
  aims_sound values (suc left) a b xs e =
      then_ok (an_aim r values a) (λ x c. then (some_aims r values left c) (λ rest d. ok (x ∷ rest) d)) xs b e
      (λ x c f h. then_ok (some_aims r values left c) (λ rest d. ok (x ∷ rest) d) xs b h
      (λ rest d f₁ h₁. let p = ok_piece (x ∷ rest) xs d b h₁ in
      let i = aim_sound values a c x f in
      let j = aims_sound values left c d rest f₁ in
      rw (sym p.0, sym p.1) (join r (spelt_aim x ∷ []) (spelt_aims rest) a c d i.0 j.0, (i.1, j.1), ap suc j.2)))

  -- Bounds.
  abbrev Bounds : ℕ → ℕ → ℕ → List Bound → Type 0
  Bounds room a b xs = Reads r a (spelt_bounds xs) b × KeepsBounds xs × (length xs ≤ room)

  no_bounds : (room a b : ℕ) (xs : List Bound) → ok [] a ≡ ok xs b → Bounds room a b xs
  no_bounds room a b xs e =
      let p = ok_piece [] xs a b e in rw (sym p.0) (p.1, tt, omega arith)

  bounds_if : (room a b : ℕ) (xs : List Bound) (t : Lexeme) (q : Bool) → r.look a ≡ token t → same t (word (codes "bound")) ≡ q → ((x y : ℕ) (us : List Bound) → some_bounds r room x ≡ ok us y → Bounds room x y us) → cond q (then (a_limit r (r.next a)) (λ k c. then (a_number r 256 c) (λ ds d. then (some_bounds r room d) (λ rest x. ok (record { limit = k; budget = ds } ∷ rest) x)))) (ok [] a) ≡ ok xs b → Bounds (suc room) a b xs
  bounds_if room a b xs t false l m rec e = no_bounds (suc room) a b xs e
  bounds_if room a b xs t true l m rec e =
      then_ok (a_limit r (r.next a)) (λ k c. then (a_number r 256 c) (λ ds d. then (some_bounds r room d) (λ rest x. ok (record { limit = k; budget = ds } ∷ rest) x))) xs b e
      (λ k c f h. then_ok (a_number r 256 c) (λ ds d. then (some_bounds r room d) (λ rest x. ok (record { limit = k; budget = ds } ∷ rest) x)) xs b h
      (λ ds d f₁ h₁. then_ok (some_bounds r room d) (λ rest x. ok (record { limit = k; budget = ds } ∷ rest) x) xs b h₁
      (λ rest x f₂ h₂. let p = ok_piece (record { limit = k; budget = ds } ∷ rest) xs x b h₂ in
      let i = a_limit_sound k (r.next a) c f in
      let j = a_number_sound r 256 c d ds f₁ in
      let o = rec d x rest f₂ in
      let few = o.2 in
      rw (sym p.0, sym p.1) ((l ∙ ap token (same_equal t (word (codes "bound")) m), join r (word (limit_letters k) ∷ []) (number ds ∷ spelt_bounds rest) (r.next a) c x i (join r (number ds ∷ []) (spelt_bounds rest) c d x j.0 o.0)), (j.1, o.1), omega arith))))

  pub bounds_sound : (room a b : ℕ) (xs : List Bound) → some_bounds r room a ≡ ok xs b → Bounds room a b xs
  unfolding some_bounds
  bounds_sound zero a b xs e =
      seeing_ok r a (λ t. guard (not (same t (word (codes "bound")))) 7 a (ok [] a)) xs b e
      (λ t l f. guard_ok (not (same t (word (codes "bound")))) 7 a (ok [] a) xs b f (λ q g. no_bounds zero a b xs g))
  bounds_sound (suc room) a b xs e =
      seeing_ok r a (λ t. cond (same t (word (codes "bound"))) (then (a_limit r (r.next a)) (λ k c. then (a_number r 256 c) (λ ds d. then (some_bounds r room d) (λ rest x. ok (record { limit = k; budget = ds } ∷ rest) x)))) (ok [] a)) xs b e
      (λ t l f. bounds_if room a b xs t (same t (word (codes "bound"))) l refl (bounds_sound room) f)
