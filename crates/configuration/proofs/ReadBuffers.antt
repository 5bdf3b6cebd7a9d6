-- Buffers read one after another: what was read and what the rest tells are together what all the bytes tell.
use Rattle.std.proofs.Common.{◌≡◌, ℕ, suc, ◌+◌, ◌-◌, ◌*◌, ◌<◌, ◌≤◌, List, [], ◌∷◌, ◌++◌, map, length, take, drop, set, sym, ap, ◌∙◌, append_assoc, append-nil, arith}
use Rattle.std.proofs.lemmas.List.{drop-drop, take_more_set, map_push, take_all}
use Rattle.configuration.specs.declared.buffer.Buffer.{Buffer}
use Rattle.configuration.specs.Config.{BufferState}
use Rattle.configuration.specs.Reading.{buffer_from, unbuffers}
use Rattle.configuration.specs.Meaning.{state_of}

-- One buffer more.
pub buffer_more : (n m : ℕ) (xs : List Buffer) (x : Buffer) (bs : List ℕ) (rest : List BufferState) → n < m → m ≡ length xs → state_of x ≡ buffer_from (drop (78 * n) bs) → map state_of (take n xs) ++ unbuffers (m - n) (drop (78 * n) bs) ≡ rest → map state_of (take (n + 1) (set xs n x)) ++ unbuffers (m - (n + 1)) (drop (78 * (n + 1)) bs) ≡ rest
unfolding unbuffers
buffer_more n m xs x bs rest lt em ex inv =
    let at = 78 * n in
    let k = m - (n + 1) in
    let done = map state_of (take n xs) in
    let a : map state_of (take (n + 1) (set xs n x)) ≡ done ++ state_of x ∷ [] =
    ap (map state_of) (take_more_set xs n x (omega arith)) ∙ map_push state_of (take n xs) x in
    let i : m - n ≡ suc k = omega arith in
    let j : at + 78 ≡ 78 * (n + 1) = omega arith in
    ap (λ y. y ++ unbuffers k (drop (78 * (n + 1)) bs)) a
    ∙ (append_assoc done (state_of x ∷ []) (unbuffers k (drop (78 * (n + 1)) bs))
    ∙ (ap (λ y. done ++ (y ∷ unbuffers k (drop (78 * (n + 1)) bs))) ex
    ∙ (ap (λ y. done ++ (buffer_from (drop at bs) ∷ unbuffers k y)) (ap (λ y. drop y bs) (sym j) ∙ sym (drop-drop 78 at bs))
    ∙ (ap (λ y. done ++ unbuffers y (drop at bs)) (sym i) ∙ inv))))

-- No more room: that is all.
pub buffers_all : (n m : ℕ) (xs : List Buffer) (bs : List ℕ) (rest : List BufferState) → m ≤ n → m ≡ length xs → map state_of (take n xs) ++ unbuffers (m - n) (drop (78 * n) bs) ≡ rest → map state_of xs ≡ rest
unfolding unbuffers
buffers_all n m xs bs rest le em inv =
    let i : m - n ≡ 0 = omega arith in
    ap (map state_of) (sym (take_all n xs (omega arith)))
    ∙ (sym (append-nil (map state_of (take n xs)))
    ∙ (ap (λ y. map state_of (take n xs) ++ unbuffers y (drop (78 * n) bs)) (sym i) ∙ inv))
