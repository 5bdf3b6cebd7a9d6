-- Buffers written one after another.
use Rattle.std.proofs.Common.{◌≡◌, ℕ, ◌+◌, ◌*◌, ◌<◌, ◌≤◌, List, [], ◌∷◌, ◌++◌, map, reverse, length, get_or, take, drop, sym, ap, ◌∙◌, append_assoc, append-nil, arith, length-append, length-drop}
use borrow.Rule.Slice.PartMut.{put_mid}
use Rattle.std.proofs.lemmas.List.{take_all, take_at, drop_more, drop_all}
use Rattle.std.proofs.lemmas.Slice.{take-put_mid}
use Rattle.configuration.specs.declared.buffer.Buffer.{Buffer}
use Rattle.configuration.specs.Layout.{slots, task_slots, buffer_bytes, all_bytes}
use Rattle.configuration.specs.Meaning.{frames_on, tasks_of, state_of}
use Rattle.configuration.specs.Bytes.{slots_long}

-- Two parts that fill the room.
two_put : (x k : ℕ) (o a b : List ℕ) → length a ≡ x → length o ≤ x + k → put_mid x k (a ++ drop x o) b ≡ a ++ b
two_put x k o a b ea el =
    let t : take x (a ++ drop x o) ≡ a = take_at a (drop x o) x ea in
    let d : drop k (drop x (a ++ drop x o)) ≡ [] = drop_all k (drop x (a ++ drop x o)) (omega (arith, length-drop x (a ++ drop x o), length-append a (drop x o), length-drop x o)) in
    ap (λ y. y ++ (b ++ drop k (drop x (a ++ drop x o)))) t
    ∙ (ap (λ y. a ++ (b ++ y)) d ∙ ap (λ y. a ++ y) (append-nil b))

pub buffer_put : (x : Buffer) (o a b : List ℕ) → length o ≡ 78 → a ≡ slots 8 (reverse (frames_on x.stack)) → b ≡ task_slots 6 (tasks_of x) → put_mid 24 54 (a ++ drop 24 o) b ≡ buffer_bytes (state_of x)
unfolding buffer_bytes
buffer_put x o a b eo e f =
    two_put 24 54 o a b (ap length e ∙ slots_long 8 (reverse (frames_on x.stack))) (omega arith)
    ∙ (ap (λ y. y ++ b) e ∙ ap (λ y. slots 8 (reverse (frames_on x.stack)) ++ y) f)

-- One part more: w is its bytes, s those of the parts behind it.
pub part_more : (z n k : ℕ) (o w s rest : List ℕ) → k ≡ z → length w ≡ z → z * n + z ≤ length o → z * (n + 1) ≡ z * n + z → take (z * n) o ++ (w ++ s) ≡ rest → take (z * (n + 1)) (put_mid (z * n) k o w) ++ s ≡ rest
part_more z n k o w s rest ek ew le ez inv =
    ap (λ x. x ++ s) (take-put_mid (z * n) k o w (z * (n + 1)) (omega arith) (omega arith))
    ∙ (append_assoc (take (z * n) o) w s ∙ inv)

-- One buffer more.
pub buffer_next : (n k : ℕ) (xs : List Buffer) (x : Buffer) (o w rest : List ℕ) → n < length xs → length o ≡ 78 * length xs → k ≡ 78 → length w ≡ 78 → x ≡ get_or xs n x → w ≡ buffer_bytes (state_of x) → take (78 * n) o ++ all_bytes (map state_of (drop n xs)) ≡ rest → take (78 * (n + 1)) (put_mid (78 * n) k o w) ++ all_bytes (map state_of (drop (n + 1) xs)) ≡ rest
unfolding all_bytes
buffer_next n k xs x o w rest lt eo ek ew ex e inv =
    let s = all_bytes (map state_of (drop (n + 1) xs)) in
    let t : drop n xs ≡ x ∷ drop (n + 1) xs = drop_more xs n x lt ∙ ap (λ y. y ∷ drop (n + 1) xs) (sym ex) in
    part_more 78 n k o w s rest ek ew (omega arith) (omega arith)
    (ap (λ y. take (78 * n) o ++ (y ++ s)) e
    ∙ (ap (λ y. take (78 * n) o ++ all_bytes (map state_of y)) (sym t) ∙ inv))

pub buffers_put : (n : ℕ) (xs : List Buffer) (o rest : List ℕ) → length xs ≤ n → length o ≡ 78 * length xs → take (78 * n) o ++ all_bytes (map state_of (drop n xs)) ≡ rest → o ≡ rest
unfolding all_bytes
buffers_put n xs o rest le eo inv =
    let t : drop n xs ≡ [] = drop_all n xs le in
    sym (take_all (78 * n) o (omega arith))
    ∙ (sym (append-nil (take (78 * n) o)) ∙ (ap (λ y. take (78 * n) o ++ all_bytes (map state_of y)) (sym t) ∙ inv))
