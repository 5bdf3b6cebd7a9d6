-- Looking through the kinds for a word: what one kind more tells. Assumes nothing.
use Rattle.std.proofs.Common.{◌≡◌, ℕ, ◌+◌, ◌<◌, ◌≤◌, Bool, true, false, cond, List, get_or, drop, Some, None, sym, ap, ◌∙◌, find}
use Rattle.std.specs.Str.{bytes_eq}
use Rattle.std.proofs.lemmas.List.{at_drop_more, at_drop_all}
use Rattle.program.specs.declared.kind.Kind.{Kind}
use Rattle.program.specs.Kinds.{named, kinds, kind_named}

abbrev called : List ℕ → Kind → Bool
called word k = bytes_eq word (named k)

module _ (word : List ℕ) (i : ℕ) (d : Kind) (inv : find (called word) (drop i kinds) ≡ find (called word) kinds) where
  next : i < 14 → cond (called word (get_or kinds i d)) (Some (get_or kinds i d)) (find (called word) (drop (i + 1) kinds)) ≡ find (called word) kinds
  next h = sym (at_drop_more (find (called word)) kinds i d h) ∙ inv

  told : (name bytes : List ℕ) (b : Bool) → name ≡ named (get_or kinds i d) → bytes ≡ name → b ≡ bytes_eq word bytes → b ≡ called word (get_or kinds i d)
  told name bytes b e f g = g ∙ ap (bytes_eq word) (f ∙ e)

  pub hit : (name bytes : List ℕ) (b : Bool) → i < 14 → name ≡ named (get_or kinds i d) → bytes ≡ name → b ≡ bytes_eq word bytes → b ≡ true → Some (get_or kinds i d) ≡ kind_named word
  unfolding kind_named
  hit name bytes b h e f g is = ap (λ v. cond v (Some (get_or kinds i d)) (find (called word) (drop (i + 1) kinds))) (sym is ∙ told name bytes b e f g) ∙ next h

  pub miss : (name bytes : List ℕ) (b : Bool) → i < 14 → name ≡ named (get_or kinds i d) → bytes ≡ name → b ≡ bytes_eq word bytes → b ≡ false → find (called word) (drop (i + 1) kinds) ≡ find (called word) kinds
  miss name bytes b h e f g is = ap (λ v. cond v (Some (get_or kinds i d)) (find (called word) (drop (i + 1) kinds))) (sym is ∙ told name bytes b e f g) ∙ next h

pub over : (word : List ℕ) (i : ℕ) → 14 ≤ i → find (called word) (drop i kinds) ≡ find (called word) kinds → None ≡ kind_named word
unfolding kind_named
over word i h inv = sym (at_drop_all (find (called word)) kinds i h) ∙ inv
