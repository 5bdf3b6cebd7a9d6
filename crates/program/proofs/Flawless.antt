-- Tables have no flaw exactly where they keep all limits. Assumes nothing.
use Rattle.std.proofs.Common.{◌≡◌, ℕ, ◌<◌, ◌≤◌, Bool, true, false, leb, length, get_or, Some, None, Option, sym, refl, arith}
use Rattle.std.proofs.lemmas.List.{get_or_default}
use Rattle.std.proofs.lemmas.Bool.{and_parts, and_from, leb-true, ltb-true, eqb-true, le-leb, lt-ltb, eq-eqb}
use Rattle.program.specs.declared.expression.Expression.TheVariants.{Any}
use Rattle.program.specs.declared.node.Node.TheVariants.{Number}
use Rattle.program.specs.declared.statement.Statement.TheVariants.{Return}
use Rattle.program.specs.declared.flaw.Flaw.{Flaw}
use Rattle.program.specs.declared.flaw.Flaw.TheVariants.{Values, Globals, Buffers, Levels, Places, Procedures, Nodes, Mains, Start, Goal, Place, Node, Depth, Procedure, Main, StartValue, GoalValue}
use Rattle.program.specs.Table.{Table, statement_at, entry, node_at}
use Rattle.program.specs.Limits.{Sound, linked, sound_node}
use Rattle.program.specs.Flaws.{unless, first_of, within, size_flaw, most_flaw, each_flaw, code_flaw, list_flaw, place_flaw, node_flaw, procedure_flaw, main_flaw, start_flaw, fine_place, fine_node, fine_depth, fine_procedure, fine_main, fine_start, fine_goal, first_bad, flaw}
use Rattle.program.proofs.Firsts.{clear, all_fine}

-- None of two, and none by a test.
pub none_first : (a b : Option Flaw) → first_of a b ≡ None → a ≡ None
none_first None b e = refl
none_first (Some f) b e = e

pub none_second : (a b : Option Flaw) → first_of a b ≡ None → b ≡ None
none_second None b e = e
none_second (Some f) b e = let never : ◌≡◌ {A = ℕ} 0 1 = cc in absurd (omega arith)

none_both : (a b : Option Flaw) → a ≡ None → b ≡ None → first_of a b ≡ None
none_both a b p q = rw p q

tested : (b : Bool) (f : Flaw) → unless b f ≡ None → b ≡ true
tested true f e = refl
tested false f e = let never : ◌≡◌ {A = ℕ} 0 1 = cc in absurd (omega arith)

passes : (b : Bool) (f : Flaw) → b ≡ true → unless b f ≡ None
passes b f e = rw e refl

in_range : (least n most : ℕ) (f : Flaw) → unless (within least n most) f ≡ None → (least ≤ n) × (n ≤ most)
in_range least n most f e = let p = and_parts (leb least n) (leb n most) (tested _ f e) in (leb-true _ _ p.0, leb-true _ _ p.1)

ranged : (least n most : ℕ) (f : Flaw) → least ≤ n → n ≤ most → unless (within least n most) f ≡ None
ranged least n most f p q = passes (within least n most) f (and_from _ _ (le-leb _ _ p) (le-leb _ _ q))

-- The sizes.
pub record Sized (t : Table) : Type 0 where
  pub values : (2 ≤ t.values) × (t.values ≤ 16)
  pub globals : (1 ≤ t.globals) × (t.globals ≤ 8)
  pub buffers : (1 ≤ t.buffers) × (t.buffers ≤ 3)
  pub levels : (1 ≤ t.levels) × (t.levels ≤ 4)

pub sized : (t : Table) → size_flaw t ≡ None → Sized t
sized t e =
    let a = none_second _ _ e in
    let b = none_second _ _ a in
    record {
      values = in_range _ _ _ Values (none_first _ _ e);
      globals = in_range _ _ _ Globals (none_first _ _ a);
      buffers = in_range _ _ _ Buffers (none_first _ _ b);
      levels = in_range _ _ _ Levels (none_second _ _ b);
    }

pub record Short (t : Table) : Type 0 where
  pub places : length t.places ≤ 200
  pub procedures : length t.procedures ≤ 16
  pub nodes : length t.nodes ≤ 4096

pub short : (t : Table) → most_flaw t ≡ None → Short t
short t e =
    let a = none_second _ _ e in
    record {
      places = leb-true _ _ (tested _ Places (none_first _ _ e));
      procedures = leb-true _ _ (tested _ Procedures (none_first _ _ a));
      nodes = leb-true _ _ (tested _ Nodes (none_second _ _ a));
    }

pub record Complete (t : Table) : Type 0 where
  pub mains : length t.mains ≡ t.buffers
  pub start : length t.start ≡ t.globals
  pub goal : length t.goal ≡ t.globals

pub complete : (t : Table) → each_flaw t ≡ None → Complete t
complete t e =
    let a = none_second _ _ e in
    record {
      mains = eqb-true _ _ (tested _ Mains (none_first _ _ e));
      start = eqb-true _ _ (tested _ Start (none_first _ _ a));
      goal = eqb-true _ _ (tested _ Goal (none_second _ _ a));
    }

-- What the tables hold.
each : (fine : ℕ → Bool) (f : ℕ → Flaw) (n : ℕ) → ((k : ℕ) → k < n → fine k ≡ true) → None ≡ first_bad fine f 0 n
each fine f n all = clear fine f n n (omega arith) all

pub flaw_parts : (t : Table) → flaw t ≡ None → (size_flaw t ≡ None) × (most_flaw t ≡ None) × (each_flaw t ≡ None) × (code_flaw t ≡ None) × (list_flaw t ≡ None)
unfolding flaw
flaw_parts t e =
    let a = none_second (size_flaw t) _ e in
    let b = none_second (most_flaw t) _ a in
    let d = none_second (each_flaw t) _ b in
    (none_first (size_flaw t) _ e, none_first (most_flaw t) _ a, none_first (each_flaw t) _ b, none_first (code_flaw t) _ d, none_second (code_flaw t) _ d)

flaw_from : (t : Table) → size_flaw t ≡ None → most_flaw t ≡ None → each_flaw t ≡ None → code_flaw t ≡ None → list_flaw t ≡ None → flaw t ≡ None
unfolding flaw
flaw_from t a b d e f = none_both (size_flaw t) _ a (none_both (most_flaw t) _ b (none_both (each_flaw t) _ d (none_both (code_flaw t) _ e f)))

fine_links : (t : Table) → place_flaw t ≡ None → (k : ℕ) → k < length t.places → linked t (get_or t.places k (Return Any)) ≡ true
unfolding statement_at
fine_links t e k h = all_fine (fine_place t) Place (length t.places) e k h

fine_parts : (t : Table) → node_flaw t ≡ None → (k : ℕ) → k < length t.nodes → sound_node t (get_or t.nodes k (Number 0)) ≡ true
unfolding node_at
fine_parts t e k h = all_fine (fine_node t) Node (length t.nodes) e k h

fine_entries : (t : Table) → procedure_flaw t ≡ None → (k : ℕ) → k < length t.procedures → get_or t.procedures k 0 < length t.places
unfolding entry
fine_entries t e k h = ltb-true _ _ (all_fine (fine_procedure t) Procedure (length t.procedures) e k h)

-- No flaw: all limits are kept.
pub sound_from : (t : Table) → flaw t ≡ None → Sound t
sound_from t e =
    let p = flaw_parts t e in
    let z = sized t p.0 in
    let s = short t p.1 in
    let c = complete t p.2 in
    let node_on = none_second (place_flaw t) _ p.3 in
    let main_on = none_second (procedure_flaw t) _ p.4 in
    let start_on = none_second (main_flaw t) _ main_on in
    record {
      least_values = z.values.0;
      most_values = z.values.1;
      least_globals = z.globals.0;
      most_globals = z.globals.1;
      least_buffers = z.buffers.0;
      most_buffers = z.buffers.1;
      least_levels = z.levels.0;
      most_levels = z.levels.1;
      most_places = s.places;
      most_procedures = s.procedures;
      most_nodes = s.nodes;
      all_mains = c.mains;
      all_start = c.start;
      all_goal = c.goal;
      links = λ k d h. rw (get_or_default t.places k d (Return Any) h) (fine_links t (none_first (place_flaw t) _ p.3) k h);
      parts = λ k d h. rw (get_or_default t.nodes k d (Number 0) h) (fine_parts t (none_first (node_flaw t) _ node_on) k h);
      depths = λ k h. all_fine (fine_depth t) Depth (length t.nodes) (none_second (node_flaw t) _ node_on) k h;
      procedures = λ k d h. rw (get_or_default t.procedures k d 0 h) (fine_entries t (none_first (procedure_flaw t) _ p.4) k h);
      mains = λ k d h. rw (get_or_default t.mains k d 0 h) (ltb-true _ _ (all_fine (fine_main t) Main (length t.mains) (none_first (main_flaw t) _ main_on) k h));
      start = λ k d h. rw (get_or_default t.start k d 0 h) (ltb-true _ _ (all_fine (fine_start t) StartValue (length t.start) (none_first (start_flaw t) _ start_on) k h));
      goal = λ k d h. rw (get_or_default t.goal k d None h) (all_fine (fine_goal t) GoalValue (length t.goal) (none_second (start_flaw t) _ start_on) k h);
    }

links_fine : (t : Table) → Sound t → place_flaw t ≡ None
unfolding statement_at
links_fine t s = sym (each (fine_place t) Place (length t.places) (λ k h. s.links k (Return Any) h))

parts_fine : (t : Table) → Sound t → node_flaw t ≡ None
unfolding node_at
parts_fine t s = sym (each (fine_node t) Node (length t.nodes) (λ k h. s.parts k (Number 0) h))

entries_fine : (t : Table) → Sound t → procedure_flaw t ≡ None
unfolding entry
entries_fine t s = sym (each (fine_procedure t) Procedure (length t.procedures) (λ k h. lt-ltb _ _ (s.procedures k 0 h)))

-- All limits are kept: no flaw.
pub flawless : (t : Table) → Sound t → flaw t ≡ None
flawless t s =
    flaw_from t
    (none_both _ _ (ranged _ _ _ Values s.least_values s.most_values) (none_both _ _ (ranged _ _ _ Globals s.least_globals s.most_globals) (none_both _ _ (ranged _ _ _ Buffers s.least_buffers s.most_buffers) (ranged _ _ _ Levels s.least_levels s.most_levels))))
    (none_both _ _ (passes _ Places (le-leb _ _ s.most_places)) (none_both _ _ (passes _ Procedures (le-leb _ _ s.most_procedures)) (passes _ Nodes (le-leb _ _ s.most_nodes))))
    (none_both _ _ (passes _ Mains (eq-eqb _ _ s.all_mains)) (none_both _ _ (passes _ Start (eq-eqb _ _ s.all_start)) (passes _ Goal (eq-eqb _ _ s.all_goal))))
    (none_both (place_flaw t) _ (links_fine t s) (none_both (node_flaw t) _ (parts_fine t s) (sym (each (fine_depth t) Depth (length t.nodes) s.depths))))
    (none_both (procedure_flaw t) _ (entries_fine t s)
    (none_both (main_flaw t) _ (sym (each (fine_main t) Main (length t.mains) (λ k h. lt-ltb _ _ (s.mains k 0 h))))
    (none_both (start_flaw t) _ (sym (each (fine_start t) StartValue (length t.start) (λ k h. lt-ltb _ _ (s.start k 0 h))))
    (sym (each (fine_goal t) GoalValue (length t.goal) (λ k h. s.goal k None h))))))
