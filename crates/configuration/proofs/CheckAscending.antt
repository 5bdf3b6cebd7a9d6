-- Tasks tested one after another for their order: what is left decides as all did.
use Rattle.std.proofs.Common.{◌≡◌, ℕ, ◌+◌, ◌<◌, ◌≤◌, Bool, true, false, ◌&&◌, leb, List, [], ◌∷◌, map, length, get_or, drop, sym, refl, ap, ◌∙◌, arith}
use Rattle.std.proofs.lemmas.Bool.{le-leb, lt-leb}
use Rattle.std.proofs.lemmas.List.{drop_more, drop_all}
use Rattle.configuration.specs.Config.{Pending}
use Rattle.configuration.specs.Layout.{key}
use Rattle.configuration.specs.Tests.{ascends}
use Rattle.configuration.specs.Meaning.{Task, frames_of}

-- What is left of a list that is told by f: the element, and the rest.
told_more : {X Y : Type 0} (f : X → Y) (xs : List X) (n : ℕ) (x : X) → n < length xs → x ≡ get_or xs n x → map f (drop n xs) ≡ f x ∷ map f (drop (n + 1) xs)
told_more f xs n x lt e = ap (map f) (drop_more xs n x lt ∙ ap (λ y. y ∷ drop (n + 1) xs) (sym e))

told_all : {X Y : Type 0} (f : X → Y) (xs : List X) (n : ℕ) → length xs ≤ n → map f (drop n xs) ≡ []
told_all f xs n le = ap (map f) (drop_all n xs le)

-- The tasks ascend, and none is below k.
abbrev pub rises : ℕ → List Pending → Bool
rises k [] = true
rises k (u ∷ us) = leb k (key u) && ascends (u ∷ us)

pub rises_none : (us : List Pending) → rises 0 us ≡ ascends us
unfolding ascends
rises_none [] = refl
rises_none (u ∷ us) = ap (λ b. b && ascends (u ∷ us)) (le-leb 0 (key u) (omega arith))

rises_next : (u : Pending) (us : List Pending) → ascends (u ∷ us) ≡ rises (key u) us
unfolding ascends
rises_next u [] = refl
rises_next u (v ∷ us) = refl

-- One task more.
pub rises_more : (k a n : ℕ) (us : List Task) (u : Task) → n < length us → u ≡ get_or us n u → a ≡ key (frames_of u) → k ≤ a → rises a (map frames_of (drop (n + 1) us)) ≡ rises k (map frames_of (drop n us))
rises_more k a n us u lt eu ea le =
    let rest = map frames_of (drop (n + 1) us) in
    ap (λ y. rises y rest) ea
    ∙ (sym (rises_next (frames_of u) rest)
    ∙ (ap (λ b. b && ascends (frames_of u ∷ rest)) (sym (le-leb k (key (frames_of u)) (omega arith)))
    ∙ ap (rises k) (sym (told_more frames_of us n u lt eu))))

-- One that is below the last, and no more.
pub rises_stop : (k a n : ℕ) (us : List Task) (u : Task) → n < length us → u ≡ get_or us n u → a ≡ key (frames_of u) → a < k → false ≡ rises k (map frames_of (drop n us))
rises_stop k a n us u lt eu ea le =
    let rest = map frames_of (drop (n + 1) us) in
    ap (λ b. b && ascends (frames_of u ∷ rest)) (sym (lt-leb k (key (frames_of u)) (omega arith)))
    ∙ ap (rises k) (sym (told_more frames_of us n u lt eu))

pub rises_all : (k n : ℕ) (us : List Task) → length us ≤ n → true ≡ rises k (map frames_of (drop n us))
rises_all k n us le = ap (rises k) (sym (told_all frames_of us n le))
