-- Tests of each element of a list, and tests one after another.
use Rattle.std.proofs.Common.{◌≡◌, ℕ, Bool, true, false, ◌&&◌, not, eqb, ltb, List, [], ◌∷◌, map, length, take, sym, ap, ◌∙◌, arith}
use Rattle.std.specs.List.{list_all}
use Rattle.std.proofs.lemmas.Bool.{ne_eqb}
use Rattle.program.specs.Table.{Table}
use Rattle.configuration.specs.declared.configuration.Configuration.{Configuration}
use Rattle.configuration.specs.declared.frame.Frame.{Frame}
use Rattle.configuration.specs.Tests.{some_frames, lawful_buffer}
use Rattle.configuration.specs.Meaning.{state_of, config_of}

-- A first test that passes leaves the second to decide; one that does not, decides.
pub first_passed : (x b y : Bool) → true ≡ x → b ≡ y → b ≡ (x && y)
first_passed x b y e f = f ∙ ap (λ z. z && y) e

pub first_failed : (x y : Bool) → false ≡ x → false ≡ (x && y)
first_failed x y e = ap (λ z. z && y) e

-- A list has frames where its length is not 0.
pub some_long : (us : List Frame) (n : ℕ) → length us ≡ n → some_frames us ≡ not (eqb n 0)
some_long [] n e = ap (λ m. not (eqb m 0)) e
some_long (u ∷ us) n e =
    let some : n ≡ 0 → ⊥ = λ z. omega (arith, e, z) in
    sym (ap not (ne_eqb n 0 some))

-- The globals and the buffers that a program has.
pub globals_test : (t : Table) (x : Configuration) (v n : ℕ) (a : Bool) → v ≡ t.values → n ≡ t.globals → a ≡ list_all (λ u. ltb u v) (take n x.globals) → a ≡ list_all (λ u. ltb u t.values) (config_of t x).globals
globals_test t x v n a ev en e =
    e
    ∙ (ap (λ k. list_all (λ u. ltb u k) (take n x.globals)) ev
    ∙ ap (λ k. list_all (λ u. ltb u t.values) (take k x.globals)) en)

pub buffers_test : (t : Table) (x : Configuration) (m : ℕ) (a : Bool) → m ≡ t.buffers → a ≡ list_all (lawful_buffer t) (map state_of (take m x.buffers)) → a ≡ list_all (lawful_buffer t) (config_of t x).buffers
buffers_test t x m a em e = e ∙ ap (λ k. list_all (lawful_buffer t) (map state_of (take k x.buffers))) em
