-- The first of some numbers that fails a test. Assumes nothing.
use Rattle.std.proofs.Common.{◌≡◌, ℕ, zero, suc, ◌+◌, ◌<◌, ◌≤◌, Bool, true, false, List, length, get_or, Some, None, Option, sym, refl, ap, ◌∙◌, ⊎_elim, arith}
use Rattle.std.proofs.lemmas.Bool.{cases_lt, cases_Bool}
use Rattle.std.specs.List.{AllWithin, HoldsAt}
use Rattle.std.specs.Option.{MatchOption, IsSomeAnd, option_map}
use Rattle.program.specs.declared.flaw.Flaw.{Flaw}
use Rattle.program.specs.Flaws.{first_bad}

module _ (fine : ℕ → Bool) (f : ℕ → Flaw) where
  passed : (j n : ℕ) → fine j ≡ true → first_bad fine f j (suc n) ≡ first_bad fine f (suc j) n
  unfolding first_bad
  passed j n h = rw h refl

  failed : (j n : ℕ) → fine j ≡ false → first_bad fine f j (suc n) ≡ Some (f j)
  unfolding first_bad
  failed j n h = rw h refl

  none : (j : ℕ) → first_bad fine f j zero ≡ None
  unfolding first_bad
  none j = refl

  found_from : (n j i : ℕ) → j ≤ i → i < j + n → ((k : ℕ) → j ≤ k → k < i → fine k ≡ true) → fine i ≡ false → Some (f i) ≡ first_bad fine f j n
  found_from zero j i a b all bad = absurd (omega arith)
  found_from (suc n) j i a b all bad =
      ⊎_elim
      (λ h. found_from n (suc j) i (omega arith) (omega arith) (λ k p q. all k (omega arith) q) bad ∙ sym (passed j n (all j (omega arith) h)))
      (λ h. let e : i ≡ j = omega arith in rw e (sym (failed j n (rw e at bad))))
      (cases_lt j i)

  -- All before i pass, and i does not.
  pub found : (i n : ℕ) (b : Bool) → i < n → ((k : ℕ) → k < i → fine k ≡ true) → b ≡ fine i → b ≡ false → Some (f i) ≡ first_bad fine f 0 n
  found i n b h all e bad = found_from n 0 i (omega arith) (omega arith) (λ k _ q. all k q) (sym e ∙ bad)

  clear_from : (n j : ℕ) → ((k : ℕ) → k < j + n → fine k ≡ true) → None ≡ first_bad fine f j n
  clear_from zero j all = sym (none j)
  clear_from (suc n) j all = clear_from n (suc j) (λ k h. all k (omega arith)) ∙ sym (passed j n (all j (omega arith)))

  -- All pass.
  pub clear : (n m : ℕ) → n ≤ m → ((k : ℕ) → k < m → fine k ≡ true) → None ≡ first_bad fine f 0 n
  clear n m h all = clear_from n 0 (λ k q. all k (omega arith))

  fine_from : (n j : ℕ) → first_bad fine f j n ≡ None → (k : ℕ) → j ≤ k → k < j + n → fine k ≡ true
  fine_from zero j e k a b = absurd (omega arith)
  fine_from (suc n) j e k a b =
      ⊎_elim
      (λ h. ⊎_elim
      (λ lt. fine_from n (suc j) (sym (passed j n h) ∙ e) k (omega arith) (omega arith))
      (λ le. let same : k ≡ j = omega arith in rw same h)
      (cases_lt j k))
      (λ h. let never : ◌≡◌ {A = ℕ} 0 1 = cc (failed j n h, e) in absurd (omega arith))
      (cases_Bool (fine j))

  -- Where none is found, all pass.
  pub all_fine : (n : ℕ) → first_bad fine f 0 n ≡ None → (k : ℕ) → k < n → fine k ≡ true
  all_fine n e k h = fine_from n 0 e k (omega arith) (omega arith)

-- What `map` gave of the first that fails is the flaw that is made of it.
mapped : (f : ℕ → Flaw) (made : ℕ → Flaw → Type 0) (r : Option ℕ) (m : Option Flaw) → ((i : ℕ) (y : Flaw) → made i y → y ≡ f i) → MatchOption r (m ≡ None) (λ i. IsSomeAnd m (made i)) → m ≡ option_map f r
mapped f made None m by h = h
mapped f made (Some i) None by h = absurd h
mapped f made (Some i) (Some y) by h = ap Some (by i y h)

-- The first of the numbers below n that fails a test, found in their range.
in_range : (fine : ℕ → Bool) (f : ℕ → Flaw) (n : ℕ) (r : Option ℕ) → MatchOption r ((k : ℕ) → 0 ≤ k → k < n → fine k ≡ true) (λ i. (0 ≤ i) × (i < n) × (fine i ≡ false) × ((k : ℕ) → 0 ≤ k → k < i → fine k ≡ true)) → option_map f r ≡ first_bad fine f 0 n
in_range fine f n None h = clear fine f n n (omega arith) (λ k q. h k (omega arith) q)
in_range fine f n (Some i) h = found fine f i n (fine i) h.1 (λ k q. h.3 k (omega arith) q) refl h.2

pub first_number : (fine : ℕ → Bool) (f : ℕ → Flaw) (made : ℕ → Flaw → Type 0) (n count : ℕ) (r : Option ℕ) (m : Option Flaw) → n ≡ count → MatchOption r ((k : ℕ) → 0 ≤ k → k < n → fine k ≡ true) (λ i. (0 ≤ i) × (i < n) × (fine i ≡ false) × ((k : ℕ) → 0 ≤ k → k < i → fine k ≡ true)) → ((i : ℕ) (y : Flaw) → made i y → y ≡ f i) → MatchOption r (m ≡ None) (λ i. IsSomeAnd m (made i)) → m ≡ first_bad fine f 0 count
first_number fine f made n count r m same h by e = mapped f made r m by e ∙ in_range fine f n r h ∙ ap (first_bad fine f 0) same

-- The first item of a list that fails a test, found by its position.
in_list : {X : Type 0} (p : X → Bool) (d : X) (f : ℕ → Flaw) (xs : List X) (r : Option ℕ) → MatchOption r (AllWithin (λ x. p x ≡ true) xs 0 (length xs)) (λ i. (i < length xs) × HoldsAt (λ x. p x ≡ false) xs i × AllWithin (λ x. p x ≡ true) xs 0 i) → option_map f r ≡ first_bad (λ k. p (get_or xs k d)) f 0 (length xs)
in_list p d f xs None h = clear (λ k. p (get_or xs k d)) f (length xs) (length xs) (omega arith) (λ k q. h k d (omega arith) q)
in_list p d f xs (Some i) h = found (λ k. p (get_or xs k d)) f i (length xs) (p (get_or xs i d)) h.0 (λ k q. h.2 k d (omega arith) q) refl (h.1 d)

pub first_item : {X : Type 0} (p : X → Bool) (d : X) (f : ℕ → Flaw) (made : ℕ → Flaw → Type 0) (xs : List X) (r : Option ℕ) (m : Option Flaw) → MatchOption r (AllWithin (λ x. p x ≡ true) xs 0 (length xs)) (λ i. (i < length xs) × HoldsAt (λ x. p x ≡ false) xs i × AllWithin (λ x. p x ≡ true) xs 0 i) → ((i : ℕ) (y : Flaw) → made i y → y ≡ f i) → MatchOption r (m ≡ None) (λ i. IsSomeAnd m (made i)) → m ≡ first_bad (λ k. p (get_or xs k d)) f 0 (length xs)
first_item p d f made xs r m h by e = mapped f made r m by e ∙ in_list p d f xs r h
