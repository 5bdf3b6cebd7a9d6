-- What the explorer's calls keep of a ticket that is out. Assumes nothing.
use Rattle.std.proofs.Common.{◌≡◌, ℕ, Bool, true, false, ◌&&◌, eqb, is_some, Some, None as Absent, Option, Ok, Err, Result, MatchResult, IsSomeAnd, sym, refl, ap, ◌∙◌, subst, arith, eq-eqb, eqb-true}
use Rattle.std.proofs.lemmas.Bool.{true≢false, and_parts}
use Rattle.machine.specs.System.{System}
use Rattle.store.specs.Contents.{Contents}
use Rattle.explorer.specs.declared.refusal.Refusal.{Refusal}
use Rattle.explorer.specs.declared.refusal.Refusal.TheVariants.{NoTicket}
use Rattle.explorer.specs.declared.returned.Returned.{Returned}
use Rattle.explorer.specs.declared.ticket.Ticket.{Ticket}
use Rattle.explorer.specs.declared.verdict.Verdict.{Verdict}
use Rattle.explorer.specs.Search.{Progress}
use Rattle.explorer.specs.Rules.{State, Made, refused, began, settled, abandoned, Outcome, begin, advance, settle, abandon, unless_refused, refuse, shown_at, begun, closed, settle_on, rule}
use Rattle.explorer.specs.Histories.{accepted}
use Rattle.explorer.specs.Told.{made, settle_answer, abandon_answer, Back}
use Rattle.explorer.proofs.Outcomes.{leaves, passed, began_is, advance_out, advanced_is}
use Rattle.question.specs.Asks.{begun as asked_begun}
use Rattle.question.proofs.Asking.{found}
use Rattle.explorer_tests.specs.Held.{takes, holds, Ends}

-- The explorer's ticket is out, and it takes one of number n for its own.
pub record Takes (e : State) (n : ℕ) : Type 0 where
  pub out : is_some e.progress ≡ true
  pub own : n ≡ e.number

takes_from : (e : State) (n : ℕ) → takes e n ≡ true → Takes e n
takes_from e n h = let k = and_parts (is_some e.progress) (eqb n e.number) h in record { out = k.0; own = eqb-true n e.number k.1 }

takes_to : (e : State) (n : ℕ) → Takes e n → takes e n ≡ true
takes_to e n h = ap (λ b. b && eqb n e.number) h.out ∙ eq-eqb n e.number h.own

abbrev pub Held : State → Option Ticket → Type 0
Held e o = holds e o ≡ true

-- What is taken is taken still where the number stays and the ticket stays out.
pub record Stays (e : State) (o : Outcome) : Type 0 where
  pub number : o.state.number ≡ e.number
  pub out : is_some e.progress ≡ true → is_some o.state.progress ≡ true

held_on : (e f : State) (o : Option Ticket) → (f.number ≡ e.number) → (is_some e.progress ≡ true → is_some f.progress ≡ true) → Held e o → Held f o
held_on e f Absent n p h = refl
held_on e f (Some t) n p h = let k = takes_from e t.number h in takes_to f t.number (record { out = p k.out; own = k.own ∙ sym n })

module _ (e : State) (c : Made) where
  -- What is accepted after the ticket was shown was shown the explorer's own.
  own_shown : (a : Option Progress) (f : Progress → Outcome) → accepted (shown_at a e c f).answer ≡ true → c.ticket ≡ e.number
  own_shown Absent f h = absurd (true≢false (sym h))
  own_shown (Some q) f h = eqb-true c.ticket e.number (passed e c (eqb c.ticket e.number) (f q) NoTicket h).0

  -- The explorer's own ticket is taken back by abandon.
  abandoned_at : (a : Option Progress) → is_some a ≡ true → eqb c.ticket e.number ≡ true → (shown_at a e c (λ q. closed e c abandoned)).answer ≡ abandoned
  abandoned_at Absent p t = absurd (true≢false (sym p))
  abandoned_at (Some q) p t = ap (λ b. (unless_refused b (closed e c abandoned) (refuse e c NoTicket)).answer) t

-- advance
module _ (e : State) (n x : ℕ) (m : System) (s : Contents) where
  abbrev granted : Made
  granted = made (advance n) x m s

  advance_stays : (b : Bool) → accepted (rule e granted).answer ≡ b → Stays e (rule e granted)
  unfolding rule
  advance_stays false a =
      let f = (leaves e granted a).0 in
      record { number = ap (λ (z : State). z.number) f; out = λ h. ap (λ (z : State). is_some z.progress) f ∙ h }
  advance_stays true a =
      let q = advance_out e granted n a in
      let o = advanced_is e granted n q.0 q.1 a in
      record { number = ap (λ (z : Outcome). z.state.number) o; out = λ _. ap (λ (z : Outcome). is_some z.state.progress) o }

  pub held_advanced : (after : State) (o : Option Ticket) → after ≡ (rule e granted).state → Held e o → Held after o
  held_advanced after o p h =
      let k = advance_stays (accepted (rule e granted).answer) refl in
      subst (λ (f : State). Held f o) (sym p) (held_on e (rule e granted).state o k.number k.out h)

-- any call that is refused
refused_leaves : (e after : State) (c : Made) (r : Refusal) → refused r ≡ (rule e c).answer → after ≡ (rule e c).state → after ≡ e
refused_leaves e after c r a p = p ∙ (leaves e c (ap accepted (sym a))).0

pub held_refused : (e after : State) (c : Made) (r : Refusal) (o : Option Ticket) → refused r ≡ (rule e c).answer → after ≡ (rule e c).state → Held e o → Held after o
held_refused e after c r o a p h =
    subst (λ (f : State). Held f o) (sym (refused_leaves e after c r a p)) h

-- begin
pub begun_held : (e after : State) (t : Ticket) (m : System) (s : Contents) (p : Option Ticket) → began t.number ≡ (rule e (made begin 0 m s)).answer → after ≡ (rule e (made begin 0 m s)).state → p ≡ Some t → Held after p
unfolding rule
begun_held e after t m s p a l h =
    let c = made begin 0 m s in
    let o = (began_is e c (ap accepted (sym a))).is in
    let same : began t.number ≡ began e.number = a ∙ ap (λ (z : Outcome). z.answer) o in
    let own : t.number ≡ e.number = cc in
    let k = subst (λ (f : State). Held f (Some t)) (sym (l ∙ ap (λ (z : Outcome). z.state) o)) (takes_to (begun e c).state t.number (record { out = refl; own = own })) in
    subst (λ (i : Option Ticket). Held after i) (sym h) k

pub begun_none : (e : State) (n : ℕ) (m : System) (s : Contents) (o : Option Ticket) → began n ≡ (rule e (made begin 0 m s)).answer → Held e o → o ≡ Absent
unfolding asked_begun
begun_none e n m s Absent a h = refl
begun_none e n m s (Some t) a h = absurd (true≢false (sym (takes_from e t.number h).out ∙ ap is_some (found e m s (ap accepted (sym a))).out))

-- abandon
pub never_refused : (e : State) (r : Refusal) (t : Ticket) (m : System) (s : Contents) (o : Option Ticket) → o ≡ Some t → Held e o → refused r ≡ (rule e (made abandon t.number m s)).answer → ⊥
unfolding rule
never_refused e r t m s o p h a =
    let c = made abandon t.number m s in
    let j = takes_from e t.number (subst (λ (i : Option Ticket). Held e i) p h) in
    let k = abandoned_at e c e.progress j.out (eq-eqb t.number e.number j.own) in
    let z : ◌≡◌ {A = ℕ} 0 1 = cc in omega arith

-- A call that takes the ticket t out of a place: accepted, it was shown the explorer's own.
settled_own : (e : State) (v : Verdict) (d x : ℕ) (m : System) (s : Contents) → settled v d ≡ (rule e (made settle x m s)).answer → x ≡ e.number
unfolding rule
settled_own e v d x m s a =
    let c = made settle x m s in
    own_shown e c e.progress (settle_on e c) (ap accepted (sym a))

abandoned_own : (e : State) (x : ℕ) (m : System) (s : Contents) → abandoned ≡ (rule e (made abandon x m s)).answer → x ≡ e.number
unfolding rule
abandoned_own e x m s a =
    let c = made abandon x m s in
    own_shown e c e.progress (λ q. closed e c abandoned) (ap accepted (sym a))

-- What the call tells, x, with a ticket that is handed back in its place.
abbrev GivenBack : {A : Type 0} → Result A Returned → Result A Refusal → Option Ticket → Type 0
GivenBack r x p = MatchResult r (λ y. (x ≡ Ok y) × (p ≡ Absent)) (λ z. (x ≡ Err z.refusal) × (p ≡ Some z.ticket))

module _ {A : Type 0} (e f : State) (t : Ticket) (o p : Option Ticket) (x : Result A Refusal) (so : Some t ≡ o) where
  ended : (y : A) → (x ≡ Ok y) × (p ≡ Absent) → t.number ≡ e.number → Ends e o x f p
  ended y g own =
      subst (λ (r : Result A Refusal). Ends e o r f p) (sym g.0) (subst (λ (i : Option Ticket). IsSomeAnd i (λ j. j.number ≡ e.number)) so own, g.1)

  not_ended : (z : Returned) → (x ≡ Err z.refusal) × (p ≡ Some z.ticket) → z.ticket ≡ t → f ≡ e → Ends e o x f p
  not_ended z g b l = subst (λ (r : Result A Refusal). Ends e o r f p) (sym g.0) (l, g.1 ∙ ap Some b ∙ so)

module _ (e f : State) (t : Ticket) (m : System) (s : Contents) (o p : Option Ticket) (so : Some t ≡ o) where
  pub settle_ends : (x : Result (Verdict × ℕ) Refusal) (r : Result (Verdict × ℕ) Returned) → settle_answer r ≡ (rule e (made settle t.number m s)).answer → f ≡ (rule e (made settle t.number m s)).state → Back t r → GivenBack r x p → Ends e o x f p
  settle_ends x (Ok y) a l b g = ended e f t o p x so y g (settled_own e y.0 y.1 t.number m s a)
  settle_ends x (Err z) a l b g = not_ended e f t o p x so z g b (refused_leaves e f (made settle t.number m s) z.refusal a l)

  pub abandon_ends : (x : Result (Unit {0}) Refusal) (r : Result (Unit {0}) Returned) → abandon_answer r ≡ (rule e (made abandon t.number m s)).answer → f ≡ (rule e (made abandon t.number m s)).state → Back t r → GivenBack r x p → Ends e o x f p
  abandon_ends x (Ok y) a l b g = ended e f t o p x so y g (abandoned_own e t.number m s a)
  abandon_ends x (Err z) a l b g = not_ended e f t o p x so z g b (refused_leaves e f (made abandon t.number m s) z.refusal a l)
