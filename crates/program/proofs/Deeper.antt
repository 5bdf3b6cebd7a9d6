-- What a node is worth and how deep it is, by its parts one node less deep. Assumes nothing.
use Rattle.std.proofs.Common.{◌≡◌, ℕ, zero, suc, ◌-◌, Bool, true, false, not, ◌&&◌, eqb, ltb, List, sym, refl, ap, ◌∙◌, arith}
use Rattle.std.proofs.lemmas.Bool.{ne_eqb, lt-ltb, not_from_true}
use Rattle.std.specs.Int.{from_bool}
use Rattle.program.specs.declared.operator.Operator.{Operator}
use Rattle.program.specs.declared.node.Node.{Node}
use Rattle.program.specs.declared.node.Node.TheVariants.{Not, Join}
use Rattle.program.specs.Table.{Table, node_at}
use Rattle.program.specs.Limits.{shallow_node, shallow}
use Rattle.program.specs.Values.{flag, joined, node_worth, worth}

pub worth_none : (n : ℕ) (t : Table) (globals : List ℕ) (l k : ℕ) → n ≡ 0 → 0 ≡ worth n t globals l k
unfolding worth
worth_none zero t globals l k e = refl
worth_none (suc n) t globals l k e = absurd (omega arith)

deeper : (n : ℕ) (t : Table) (globals : List ℕ) (l k : ℕ) → (n ≡ 0 → ⊥) → node_worth t.values globals l (worth (n - 1) t globals l) (node_at t k) ≡ worth n t globals l k
unfolding worth
deeper zero t globals l k h = absurd (h refl)
deeper (suc n) t globals l k h = let e : suc n - 1 ≡ n = omega arith in rw e refl

pub worth_by : (n : ℕ) (t : Table) (globals : List ℕ) (l k : ℕ) (m : Node) → (n ≡ 0 → ⊥) → m ≡ node_at t k → node_worth t.values globals l (worth (n - 1) t globals l) m ≡ worth n t globals l k
worth_by n t globals l k m h e = rw e (deeper n t globals l k h)

zero_flag : (x : ℕ) → from_bool (eqb x 0) ≡ flag (not (ltb 0 x))
zero_flag zero = refl
zero_flag (suc x) = ap from_bool (ne_eqb (suc x) 0 (λ e. omega arith)) ∙ ap flag (sym (not_from_true (ltb 0 (suc x)) (lt-ltb 0 (suc x) (omega arith))))

pub worth_not : (n : ℕ) (t : Table) (globals : List ℕ) (l k a x r : ℕ) → (n ≡ 0 → ⊥) → Not a ≡ node_at t k → x ≡ worth (n - 1) t globals l a → r ≡ from_bool (eqb x 0) → r ≡ worth n t globals l k
worth_not n t globals l k a x r h e p q = q ∙ zero_flag x ∙ ap (λ v. flag (not (ltb 0 v))) p ∙ worth_by n t globals l k (Not a) h e

pub worth_join : (n : ℕ) (t : Table) (globals : List ℕ) (l k : ℕ) (o : Operator) (a b x y r : ℕ) → (n ≡ 0 → ⊥) → Join o a b ≡ node_at t k → x ≡ worth (n - 1) t globals l a → y ≡ worth (n - 1) t globals l b → r ≡ joined t.values o x y → r ≡ worth n t globals l k
worth_join n t globals l k o a b x y r h e p q j = j ∙ ap (λ v. joined t.values o v y) p ∙ ap (λ v. joined t.values o (worth (n - 1) t globals l a) v) q ∙ worth_by n t globals l k (Join o a b) h e

pub shallow_none : (n : ℕ) (t : Table) (k : ℕ) → n ≡ 0 → false ≡ shallow n t k
unfolding shallow
shallow_none zero t k e = refl
shallow_none (suc n) t k e = absurd (omega arith)

shallow_deeper : (n : ℕ) (t : Table) (k : ℕ) → (n ≡ 0 → ⊥) → shallow_node (shallow (n - 1) t) (node_at t k) ≡ shallow n t k
unfolding shallow
shallow_deeper zero t k h = absurd (h refl)
shallow_deeper (suc n) t k h = let e : suc n - 1 ≡ n = omega arith in rw e refl

pub shallow_by : (n : ℕ) (t : Table) (k : ℕ) (m : Node) → (n ≡ 0 → ⊥) → m ≡ node_at t k → shallow_node (shallow (n - 1) t) m ≡ shallow n t k
shallow_by n t k m h e = rw e (shallow_deeper n t k h)

-- A join whose first part is shallow is so where the second is; one whose first part is not, is not.
pub shallow_second : (n : ℕ) (t : Table) (k : ℕ) (o : Operator) (a b : ℕ) (x y : Bool) → (n ≡ 0 → ⊥) → Join o a b ≡ node_at t k → x ≡ shallow (n - 1) t a → x ≡ true → y ≡ shallow (n - 1) t b → y ≡ shallow n t k
shallow_second n t k o a b x y h e p is q = q ∙ ap (λ v. v && shallow (n - 1) t b) (sym is ∙ p) ∙ shallow_by n t k (Join o a b) h e

pub shallow_first : (n : ℕ) (t : Table) (k : ℕ) (o : Operator) (a b : ℕ) (x : Bool) → (n ≡ 0 → ⊥) → Join o a b ≡ node_at t k → x ≡ shallow (n - 1) t a → x ≡ false → x ≡ shallow n t k
shallow_first n t k o a b x h e p is = is ∙ ap (λ v. v && shallow (n - 1) t b) (sym is ∙ p) ∙ shallow_by n t k (Join o a b) h e
