-- The longest front of bytes that pass a test. Assumes nothing.
use Rattle.std.proofs.Common.{◌≡◌, ℕ, suc, ◌+◌, Bool, true, false, cond, List, [], ◌∷◌, ◌++◌, length, take, drop, sym, refl, ap, ◌∙◌, subst, ⊎_elim, one-add}
use Rattle.std.specs.List.{prefix_len}
use Rattle.std.proofs.lemmas.Bool.{cases_Bool}
use Rattle.lexer.specs.Bytes.{All, Stops}

pub leading_yes : (p : ℕ → Bool) (b : ℕ) (bs : List ℕ) → p b ≡ true → prefix_len p (b ∷ bs) ≡ suc (prefix_len p bs)
leading_yes p b bs e = ap (λ (t : Bool). cond t (1 + prefix_len p bs) 0) e ∙ one-add (prefix_len p bs)

pub leading_no : (p : ℕ → Bool) (b : ℕ) (bs : List ℕ) → p b ≡ false → prefix_len p (b ∷ bs) ≡ 0
leading_no p b bs e = ap (λ (t : Bool). cond t (1 + prefix_len p bs) 0) e

pub leading_stops : (p : ℕ → Bool) (t : List ℕ) → Stops p t → prefix_len p t ≡ 0
leading_stops p [] s = refl
leading_stops p (b ∷ bs) s = leading_no p b bs s

-- Bytes that pass, before others that do not begin so.
pub leading_joined : (p : ℕ → Bool) (f t : List ℕ) → All p f → Stops p t → prefix_len p (f ++ t) ≡ length f
leading_joined p [] t a s = leading_stops p t s
leading_joined p (b ∷ bs) t a s = leading_yes p b (bs ++ t) a.0 ∙ ap suc (leading_joined p bs t a.1 s)

-- All of the longest front pass, and it is the longest.
pub front_all : (p : ℕ → Bool) (t : List ℕ) → All p (take (prefix_len p t) t)
front_all p [] = tt
front_all p (b ∷ bs) =
    ⊎_elim
    (λ e. subst (λ (n : ℕ). All p (take n (b ∷ bs))) (sym (leading_yes p b bs e)) (e, front_all p bs))
    (λ e. subst (λ (n : ℕ). All p (take n (b ∷ bs))) (sym (leading_no p b bs e)) tt)
    (cases_Bool (p b))

pub after_stops : (p : ℕ → Bool) (t : List ℕ) → Stops p (drop (prefix_len p t) t)
after_stops p [] = tt
after_stops p (b ∷ bs) =
    ⊎_elim
    (λ e. subst (λ (n : ℕ). Stops p (drop n (b ∷ bs))) (sym (leading_yes p b bs e)) (after_stops p bs))
    (λ e. subst (λ (n : ℕ). Stops p (drop n (b ∷ bs))) (sym (leading_no p b bs e)) e)
    (cases_Bool (p b))
