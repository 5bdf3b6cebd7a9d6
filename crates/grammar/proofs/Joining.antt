-- What a reading that goes well says of its parts, and tokens one after another.
use Rattle.std.proofs.Common.{◌≡◌, ℕ, Bool, true, false, cond, List, [], ◌∷◌, ◌++◌, get_or, Some, None, Option, sym, refl, ap, ◌∙◌}
use Rattle.std.specs.List.{find}
use Rattle.std.proofs.lemmas.Slice.Eq.{bytes_eq-Decides}
use Rattle.std.proofs.lemmas.Bool.{eqb-true, eq-eqb}
use Rattle.lexer.specs.Lexemes.{Lexeme, word, number, mark, end, Seen, token, long_row, stranger, Reader}
use Rattle.lexer.specs.declared.mark.Mark.{Mark}
use Rattle.lexer.specs.declared.mark.Mark.TheVariants.{Open, Close, Left, Right, Semicolon, Becomes, Plus, Minus, Equal, Less, And, Or, Not, Star, Any}
use Rattle.grammar.specs.Tokens.{mark_number, same}
use Rattle.grammar.specs.Results.{Outcome, ok, bad, then, guard, need, on_seen, seeing, expect, Reads}

pub then_ok : {A B G : Type 0} (p : Outcome A) (f : A → ℕ → Outcome B) (y : B) (c : ℕ) → then p f ≡ ok y c → ((x : A) (b : ℕ) → p ≡ ok x b → f x b ≡ ok y c → G) → G
then_ok (ok x b) f y c e k = k x b refl e
then_ok (bad n a) f y c e k = cc

pub guard_ok : {A G : Type 0} (t : Bool) (n a : ℕ) (p : Outcome A) (y : A) (c : ℕ) → guard t n a p ≡ ok y c → (t ≡ true → p ≡ ok y c → G) → G
guard_ok true n a p y c e k = k refl e
guard_ok false n a p y c e k = cc

pub need_ok : {A B G : Type 0} (o : Option A) (a : ℕ) (f : A → Outcome B) (y : B) (c : ℕ) → need o a f ≡ ok y c → ((x : A) → o ≡ Some x → f x ≡ ok y c → G) → G
need_ok (Some x) a f y c e k = k x refl e
need_ok None a f y c e k = cc

on_seen_ok : {A G : Type 0} (s : Seen) (a : ℕ) (f : Lexeme → Outcome A) (y : A) (c : ℕ) → on_seen s a f ≡ ok y c → ((t : Lexeme) → s ≡ token t → f t ≡ ok y c → G) → G
on_seen_ok (token t) a f y c e k = k t refl e
on_seen_ok long_row a f y c e k = cc
on_seen_ok stranger a f y c e k = cc

pub seeing_ok : {A G : Type 0} (r : Reader) (a : ℕ) (f : Lexeme → Outcome A) (y : A) (c : ℕ) → seeing r a f ≡ ok y c → ((t : Lexeme) → r.look a ≡ token t → f t ≡ ok y c → G) → G
seeing_ok r a f y c e k = on_seen_ok (r.look a) a f y c e k

-- One piece at one offset.
pub ok_piece : {A : Type 0} (x y : A) (b c : ℕ) → ok x b ≡ ok y c → (x ≡ y) × (b ≡ c)
ok_piece x y b c e = (cc, cc)

-- Marks of one number are one mark.
abbrev mark_at : ℕ → Mark
mark_at n = get_or (Open ∷ Close ∷ Left ∷ Right ∷ Semicolon ∷ Becomes ∷ Plus ∷ Minus ∷ Equal ∷ Less ∷ And ∷ Or ∷ Not ∷ Star ∷ []) n Any

mark_back : (m : Mark) → mark_at (mark_number m) ≡ m
mark_back Open = refl
mark_back Close = refl
mark_back Left = refl
mark_back Right = refl
mark_back Semicolon = refl
mark_back Becomes = refl
mark_back Plus = refl
mark_back Minus = refl
mark_back Equal = refl
mark_back Less = refl
mark_back And = refl
mark_back Or = refl
mark_back Not = refl
mark_back Star = refl
mark_back Any = refl

-- Tokens that are told to be the same are equal.
pub same_equal : (t u : Lexeme) → same t u ≡ true → t ≡ u
same_equal (word u) (word w) e = ap word ((bytes_eq-Decides u w).0 e)
same_equal (word u) (number w) e = cc
same_equal (word u) (mark n) e = cc
same_equal (word u) end e = cc
same_equal (number u) (word w) e = cc
same_equal (number u) (number w) e = ap number ((bytes_eq-Decides u w).0 e)
same_equal (number u) (mark n) e = cc
same_equal (number u) end e = cc
same_equal (mark m) (word w) e = cc
same_equal (mark m) (number w) e = cc
same_equal (mark m) (mark n) e =
    ap mark (sym (mark_back m) ∙ (ap mark_at (eqb-true (mark_number m) (mark_number n) e) ∙ mark_back n))
same_equal (mark m) end e = cc
same_equal end (word w) e = cc
same_equal end (number w) e = cc
same_equal end (mark n) e = cc
same_equal end end e = refl

pub same_self : (t : Lexeme) → same t t ≡ true
same_self (word u) = (bytes_eq-Decides u u).1 refl
same_self (number u) = (bytes_eq-Decides u u).1 refl
same_self (mark m) = eq-eqb (mark_number m) (mark_number m) refl
same_self end = refl

-- What is picked passes the test.
picked_if : {A : Type 0} (p : A → Bool) (x y : A) (b : Bool) (rest : Option A) → p x ≡ b → (rest ≡ Some y → p y ≡ true) → cond b (Some x) rest ≡ Some y → p y ≡ true
picked_if p x y true rest e on h = let one : x ≡ y = cc in rw (sym one) e
picked_if p x y false rest e on h = on h

pub picked : {A : Type 0} (p : A → Bool) (xs : List A) (y : A) → find p xs ≡ Some y → p y ≡ true
picked p [] y h = cc
picked p (x ∷ xs) y h = picked_if p x y (p x) (find p xs) refl (picked p xs y) h

-- Tokens one after another are met where each part is.
pub join : (r : Reader) (ts us : List Lexeme) (a b c : ℕ) → Reads r a ts b → Reads r b us c → Reads r a (ts ++ us) c
join r [] us a b c h k = rw h k
join r (t ∷ ts) us a b c h k = (h.0, join r ts us (r.next a) b c h.1 k)

pub split : {G : Type 0} (r : Reader) (ts us : List Lexeme) (a c : ℕ) → Reads r a (ts ++ us) c → ((b : ℕ) → Reads r a ts b → Reads r b us c → G) → G
split r [] us a c h k = k a refl h
split r (t ∷ ts) us a c h k = split r ts us (r.next a) c h.1 (λ b p q. k b (h.0, p) q)

-- A token that is due is met exactly where it is expected.
pub expect_sound : (r : Reader) (t : Lexeme) (a b : ℕ) (x : Unit {0}) → expect r t a ≡ ok x b → Reads r a (t ∷ []) b
unfolding expect
expect_sound r t a b x e =
    seeing_ok r a (λ u. guard (same u t) 3 a (ok tt (r.next a))) x b e
    (λ u l f. guard_ok (same u t) 3 a (ok tt (r.next a)) x b f
    (λ s g. (l ∙ ap token (same_equal u t s), (ok_piece tt x (r.next a) b g).1)))

pub expect_complete : (r : Reader) (t : Lexeme) (a : ℕ) → r.look a ≡ token t → expect r t a ≡ ok tt (r.next a)
unfolding expect
expect_complete r t a l = rw (l, same_self t)
