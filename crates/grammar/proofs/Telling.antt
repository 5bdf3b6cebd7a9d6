-- What tokens stand for: each way both from the token and to it.
use Rattle.std.proofs.Common.{◌≡◌, ℕ, zero, suc, ◌<◌, ◌≤◌, Bool, true, false, cond, ltb, List, [], ◌∷◌, Some, None, Option, sym, refl, ap, ◌∙◌, arith}
use Rattle.std.proofs.lemmas.Bool.{ltb-true, lt-ltb}
use Rattle.lexer.specs.Lexemes.{Lexeme, word, number, mark, end, token, Reader}
use Rattle.lexer.specs.declared.mark.Mark.TheVariants.{Left, Not}
use Rattle.program.specs.declared.variable.Variable.{Variable}
use Rattle.program.specs.declared.variable.Variable.TheVariants.{Global, Local}
use Rattle.program.specs.declared.operator.Operator.{Operator}
use Rattle.program.specs.declared.operator.Operator.TheVariants.{Plus, Minus, Equal, Less, And, Or}
use Rattle.grammar.specs.Tokens.{same, value, digits_of, letters, variables, variable_of, sign, operators, operator_of, reserved, name_of}
use Rattle.grammar.specs.Rules.{Ranged}
use Rattle.grammar.specs.Results.{ok, guard, need, Reads}
use Rattle.grammar.specs.ReadExpr.{ranged, a_variable, a_number, a_name, Start, with_number, with_variable, with_not, with_left, with_other, begun, start}
use Rattle.grammar.proofs.Joining.{guard_ok, need_ok, seeing_ok, ok_piece, same_equal, picked}

-- Variables and operators.
pub variable_told : (t : Lexeme) (v : Variable) → variable_of t ≡ Some v → t ≡ word (letters v)
unfolding variable_of
variable_told t v e = same_equal t (word (letters v)) (picked (λ x. same t (word (letters x))) variables v e)

pub variable_back : (v : Variable) → Ranged 8 v → variable_of (word (letters v)) ≡ Some v
unfolding variable_of
variable_back Local h = refl
variable_back (Global zero) h = refl
variable_back (Global (suc zero)) h = refl
variable_back (Global (suc (suc zero))) h = refl
variable_back (Global (suc (suc (suc zero)))) h = refl
variable_back (Global (suc (suc (suc (suc zero))))) h = refl
variable_back (Global (suc (suc (suc (suc (suc zero)))))) h = refl
variable_back (Global (suc (suc (suc (suc (suc (suc zero))))))) h = refl
variable_back (Global (suc (suc (suc (suc (suc (suc (suc zero)))))))) h = refl
variable_back (Global (suc (suc (suc (suc (suc (suc (suc (suc n))))))))) h = absurd (omega arith)

pub operator_told : (t : Lexeme) (o : Operator) → operator_of t ≡ Some o → t ≡ mark (sign o)
unfolding operator_of
operator_told t o e = same_equal t (mark (sign o)) (picked (λ x. same t (mark (sign x))) operators o e)

pub operator_back : (o : Operator) → operator_of (mark (sign o)) ≡ Some o
unfolding operator_of
operator_back Plus = refl
operator_back Minus = refl
operator_back Equal = refl
operator_back Less = refl
operator_back And = refl
operator_back Or = refl

-- Digits and names.
pub digits_told : (t : Lexeme) (ds : List ℕ) → digits_of t ≡ Some ds → t ≡ number ds
digits_told (word w) ds e = cc
digits_told (number x) ds e = cc
digits_told (mark m) ds e = cc
digits_told end ds e = cc

name_if : (w x : List ℕ) (b : Bool) → reserved w ≡ b → cond b None (Some w) ≡ Some x → (w ≡ x) × (reserved x ≡ false)
name_if w x true e h = cc
name_if w x false e h = let one : w ≡ x = cc in (one, rw (sym one) e)

pub name_told : (t : Lexeme) (w : List ℕ) → name_of t ≡ Some w → (t ≡ word w) × (reserved w ≡ false)
unfolding name_of
name_told (word x) w e = let k = name_if x w (reserved x) refl e in (ap word k.0, k.1)
name_told (number x) w e = cc
name_told (mark m) w e = cc
name_told end w e = cc

pub name_back : (w : List ℕ) → reserved w ≡ false → name_of (word w) ≡ Some w
unfolding name_of
name_back w e = rw e refl

-- A variable in range, as a test and as a fact.
pub ranged_true : (n : ℕ) (v : Variable) → ranged n v ≡ true → Ranged n v
ranged_true n (Global g) e = ltb-true g n e
ranged_true n Local e = tt

pub true_ranged : (n : ℕ) (v : Variable) → Ranged n v → ranged n v ≡ true
true_ranged n (Global g) h = lt-ltb g n h
true_ranged n Local h = refl

pub ranged_wider : (n m : ℕ) (v : Variable) → n ≤ m → Ranged n v → Ranged m v
ranged_wider n m (Global g) le h = omega arith
ranged_wider n m Local le h = tt

-- What is picked where a piece begins at an offset, and the rules it keeps.
pub a_variable_sound : (r : Reader) (n a b : ℕ) (v : Variable) → a_variable r n a ≡ ok v b → Reads r a (word (letters v) ∷ []) b × Ranged n v
unfolding a_variable
a_variable_sound r n a b v e =
    seeing_ok r a (λ t. need (variable_of t) a (λ x. guard (ranged n x) 4 a (ok x (r.next a)))) v b e
    (λ t l f. need_ok (variable_of t) a (λ x. guard (ranged n x) 4 a (ok x (r.next a))) v b f
    (λ x p g. guard_ok (ranged n x) 4 a (ok x (r.next a)) v b g
    (λ q h. let k = ok_piece x v (r.next a) b h in
    ((l ∙ ap token (variable_told t x p ∙ ap (λ y. word (letters y)) k.0), k.1), rw (sym k.0) (ranged_true n x q)))))

pub a_variable_complete : (r : Reader) (n a : ℕ) (v : Variable) → n ≤ 8 → r.look a ≡ token (word (letters v)) → Ranged n v → a_variable r n a ≡ ok v (r.next a)
unfolding a_variable
a_variable_complete r n a v le l h =
    rw (l, variable_back v (ranged_wider n 8 v le h), true_ranged n v h)

pub a_number_sound : (r : Reader) (n a b : ℕ) (ds : List ℕ) → a_number r n a ≡ ok ds b → Reads r a (number ds ∷ []) b × (value ds < n)
unfolding a_number
a_number_sound r n a b ds e =
    seeing_ok r a (λ t. need (digits_of t) a (λ x. guard (ltb (value x) n) 4 a (ok x (r.next a)))) ds b e
    (λ t l f. need_ok (digits_of t) a (λ x. guard (ltb (value x) n) 4 a (ok x (r.next a))) ds b f
    (λ x p g. guard_ok (ltb (value x) n) 4 a (ok x (r.next a)) ds b g
    (λ q h. let k = ok_piece x ds (r.next a) b h in
    ((l ∙ ap token (digits_told t x p ∙ ap number k.0), k.1), rw (sym k.0) (ltb-true (value x) n q)))))

pub a_number_complete : (r : Reader) (n a : ℕ) (ds : List ℕ) → r.look a ≡ token (number ds) → value ds < n → a_number r n a ≡ ok ds (r.next a)
unfolding a_number
a_number_complete r n a ds l h = rw (l, lt-ltb (value ds) n h)

pub a_name_sound : (r : Reader) (a b : ℕ) (w : List ℕ) → a_name r a ≡ ok w b → Reads r a (word w ∷ []) b × (reserved w ≡ false)
unfolding a_name
a_name_sound r a b w e =
    seeing_ok r a (λ t. need (name_of t) a (λ x. ok x (r.next a))) w b e
    (λ t l f. need_ok (name_of t) a (λ x. ok x (r.next a)) w b f
    (λ x p h. let k = ok_piece x w (r.next a) b h in
    let m = name_told t x p in
    ((l ∙ ap token (m.0 ∙ ap word k.0), k.1), rw (sym k.0) m.1)))

pub a_name_complete : (r : Reader) (a : ℕ) (w : List ℕ) → r.look a ≡ token (word w) → reserved w ≡ false → a_name r a ≡ ok w (r.next a)
unfolding a_name
a_name_complete r a w l h = rw (l, name_back w h)

-- What a term begins with, told from its token.
abbrev pub Begins : Lexeme → Start → Type 0
Begins t (with_number ds) = t ≡ number ds
Begins t (with_variable v) = t ≡ word (letters v)
Begins t with_not = t ≡ mark Not
Begins t with_left = t ≡ mark Left
Begins t with_other = Unit {0}

begun_told : (t : Lexeme) (d : Option (List ℕ)) (v : Option Variable) (n l : Bool) → digits_of t ≡ d → variable_of t ≡ v → same t (mark Not) ≡ n → same t (mark Left) ≡ l → Begins t (begun d v n l)
begun_told t (Some ds) v n l p q x y = digits_told t ds p
begun_told t None (Some v) n l p q x y = variable_told t v q
begun_told t None None true l p q x y = same_equal t (mark Not) x
begun_told t None None false true p q x y = same_equal t (mark Left) y
begun_told t None None false false p q x y = tt

pub start_told : (t : Lexeme) → Begins t (start t)
unfolding start
start_told t = begun_told t (digits_of t) (variable_of t) (same t (mark Not)) (same t (mark Left)) refl refl refl refl

pub start_number : (ds : List ℕ) → start (number ds) ≡ with_number ds
unfolding start
start_number ds = refl

pub start_variable : (v : Variable) → Ranged 8 v → start (word (letters v)) ≡ with_variable v
unfolding start
start_variable v h = rw (variable_back v h)

pub start_not : start (mark Not) ≡ with_not
unfolding start variable_of
start_not = refl

pub start_left : start (mark Left) ≡ with_left
unfolding start variable_of
start_left = refl
