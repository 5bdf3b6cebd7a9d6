-- A line put together from its parts.
use Rattle.std.proofs.Common.{◌≡◌, ℕ, ◌+◌, ◌-◌, ◌≤◌, List, [], ◌∷◌, ◌++◌, map, length, take, drop, set, ap, ◌∙◌, append-nil, arith, length-drop, length-set}
use borrow.Rule.Slice.PartMut.{put_mid}
use Rattle.std.proofs.lemmas.List.{drop_all, take_more_set}
use Rattle.std.proofs.lemmas.Slice.{take-put_mid}
use Rattle.program.specs.Table.{Table}
use Rattle.configuration.specs.declared.configuration.Configuration.{Configuration}
use Rattle.configuration.specs.Layout.{all_bytes, written}
use Rattle.configuration.specs.Meaning.{state_of, config_of}

-- A first byte, and two parts behind it, the second of them to the end.
parts_put : (v g k j : ℕ) (o gs bs : List ℕ) → length gs ≡ g → 1 ≤ length o → j ≡ length (put_mid 1 k (set o 0 v) gs) - (1 + g) → put_mid (1 + g) j (put_mid 1 k (set o 0 v) gs) bs ≡ v ∷ (gs ++ bs)
parts_put v g k j o gs bs eg lo ej =
    let p : List ℕ = set o 0 v in
    let q : List ℕ = put_mid 1 k p gs in
    let one : take 1 p ≡ v ∷ [] = take_more_set o 0 v (omega arith) in
    let t : take (1 + g) q ≡ v ∷ gs =
    take-put_mid 1 k p gs (1 + g) (omega arith) (omega (arith, length-set o 0 v)) ∙ ap (λ y. y ++ gs) one in
    let d : drop j (drop (1 + g) q) ≡ [] = drop_all j (drop (1 + g) q) (omega (arith, length-drop (1 + g) q)) in
    ap (λ y. y ++ (bs ++ drop j (drop (1 + g) q))) t
    ∙ ap (λ y. v ∷ (gs ++ y)) (ap (λ y. bs ++ y) d ∙ append-nil bs)

-- The line of a configuration: n globals and m buffers were written.
pub line_put : (t : Table) (x : Configuration) (g k j n m : ℕ) (o gs bs : List ℕ) → n ≡ t.globals → m ≡ t.buffers → length gs ≡ g → 1 ≤ length o → j ≡ length (put_mid 1 k (set o 0 x.active) gs) - (1 + g) → gs ≡ take n x.globals → bs ≡ all_bytes (map state_of (take m x.buffers)) → put_mid (1 + g) j (put_mid 1 k (set o 0 x.active) gs) bs ≡ written (config_of t x)
unfolding written
line_put t x g k j n m o gs bs en em eg lo ej e f =
    parts_put x.active g k j o gs bs eg lo ej
    ∙ (ap (λ y. x.active ∷ (y ++ bs)) (e ∙ ap (λ y. take y x.globals) en)
    ∙ ap (λ y. x.active ∷ (take t.globals x.globals ++ y)) (f ∙ ap (λ y. all_bytes (map state_of (take y x.buffers))) em))
