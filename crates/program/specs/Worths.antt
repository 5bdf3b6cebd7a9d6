-- What a node is worth, as a relation: one rule for each form of node. Assumes nothing.
use Rattle.std.specs.Prelude.{◌≡◌, ℕ, zero, suc, ◌<◌, true, not, List, length, refl}
use Rattle.std.proofs.Math.Path.{sym, ap}
use Rattle.std.proofs.Common.{◌∙◌}
use Rattle.std.proofs.lemmas.Bool.{and_parts, false≢true}
use Rattle.program.specs.declared.variable.Variable.{Variable}
use Rattle.program.specs.declared.operator.Operator.{Operator}
use Rattle.program.specs.declared.node.Node.{Node}
use Rattle.program.specs.declared.node.Node.TheVariants.{Number, Read, Not, Join}
use Rattle.program.specs.Table.{Table, node_at}
use Rattle.program.specs.Limits.{Sound, deepest, shallow_node, shallow}
use Rattle.program.specs.Values.{true_value, flag, joined, held, node_worth, worth, value}

-- A number is worth itself, a variable what it holds, and every other node what is made of its parts.
pub data Worth (t : Table) (globals : List ℕ) (l : ℕ) : ℕ → ℕ → Type 0 where
  number : {k v : ℕ} → node_at t k ≡ Number v → Worth t globals l k v
  read : {k v : ℕ} {x : Variable} → node_at t k ≡ Read x → v ≡ held globals l x → Worth t globals l k v
  negated : {k v a u : ℕ} → node_at t k ≡ Not a → Worth t globals l a u → v ≡ flag (not (true_value u)) → Worth t globals l k v
  join : {k v a b u w : ℕ} {o : Operator} → node_at t k ≡ Join o a b → Worth t globals l a u → Worth t globals l b w → v ≡ joined t.values o u w → Worth t globals l k v

module _ (t : Table) (globals : List ℕ) (l : ℕ) where
  -- What a node is worth, and how deep it is, once its form is known.
  opened : (n k : ℕ) (m : Node) → node_at t k ≡ m → worth (suc n) t globals l k ≡ node_worth t.values globals l (worth n t globals l) m
  unfolding worth
  opened n k m e = ap (node_worth t.values globals l (worth n t globals l)) e

  shallow_opened : (n k : ℕ) (m : Node) → node_at t k ≡ m → shallow (suc n) t k ≡ true → shallow_node (shallow n t) m ≡ true
  unfolding shallow
  shallow_opened n k m e h = sym (ap (shallow_node (shallow n t)) e) ∙ h

  nothing : {X : Type 0} (k : ℕ) → shallow zero t k ≡ true → X
  unfolding shallow
  nothing k h = absurd (false≢true h)

  -- Whatever a node is worth is what was computed,
  computed : (n k v : ℕ) → shallow n t k ≡ true → Worth t globals l k v → v ≡ worth n t globals l k
  computed zero k v h w = nothing k h
  computed (suc n) k v h (number e) = sym (opened n k (Number v) e)
  computed (suc n) k v h (read {x = x} e q) = q ∙ sym (opened n k (Read x) e)
  computed (suc n) k v h (negated {a = a} {u = u} e w q) = q ∙ ap (λ z. flag (not (true_value z))) (computed n a u (shallow_opened n k (Not a) e h) w) ∙ sym (opened n k (Not a) e)
  computed (suc n) k v h (join {a = a} {b = b} {u = u} {w = w} {o = o} e p r q) =
      let both = and_parts (shallow n t a) (shallow n t b) (shallow_opened n k (Join o a b) e h) in
      q
      ∙ ap (λ z. joined t.values o z w) (computed n a u both.0 p)
      ∙ ap (λ z. joined t.values o (worth n t globals l a) z) (computed n b w both.1 r)
      ∙ sym (opened n k (Join o a b) e)

  -- and what was computed is what the node is worth.
  made : (n k : ℕ) → ((a : ℕ) → shallow n t a ≡ true → Worth t globals l a (worth n t globals l a)) → (m : Node) → node_at t k ≡ m → shallow_node (shallow n t) m ≡ true → Worth t globals l k (node_worth t.values globals l (worth n t globals l) m)
  made n k below (Number v) e h = number e
  made n k below (Read x) e h = read e refl
  made n k below (Not a) e h = negated e (below a h) refl
  made n k below (Join o a b) e h =
      let both = and_parts (shallow n t a) (shallow n t b) h in
      join e (below a both.0) (below b both.1) refl

  derived : (n k : ℕ) → shallow n t k ≡ true → Worth t globals l k (worth n t globals l k)
  derived zero k h = nothing k h
  derived (suc n) k h = rw (opened n k (node_at t k) refl) (made n k (derived n) (node_at t k) refl (shallow_opened n k (node_at t k) refl h))

-- A node of a program is worth one value, which is `value`.
abbrev pub Valued : Table → List ℕ → ℕ → ℕ → Type 0
Valued t globals l k = k < length t.nodes → (v : ℕ) → (Worth t globals l k v → v ≡ value t globals l k) × (v ≡ value t globals l k → Worth t globals l k v)

pub valued : (t : Table) (globals : List ℕ) (l k : ℕ) → Sound t → Valued t globals l k
unfolding value
valued t globals l k s h v =
    (λ w. computed t globals l deepest k v (s.depths k h) w, λ e. rw e (derived t globals l deepest k (s.depths k h)))
