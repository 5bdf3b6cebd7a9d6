-- A configuration put together from what its line tells.
use Rattle.std.proofs.Common.{◌≡◌, ℕ, ◌+◌, ◌-◌, List, ◌++◌, map, length, get_or, take, drop, ◌∙◌}
use Rattle.std.proofs.lemmas.List.{take_at, take_rest}
use Rattle.program.specs.Table.{Table}
use Rattle.configuration.specs.declared.buffer.Buffer.{Buffer}
use Rattle.configuration.specs.Reading.{unbuffers, decoded}
use Rattle.configuration.specs.Meaning.{state_of, config_of}

-- n globals and k buffers were read.
pub told_whole : (t : Table) (g n k : ℕ) (l gs xs : List ℕ) (bs ys : List Buffer) → g ≡ t.globals → n ≡ t.globals → k ≡ t.buffers → length gs ≡ n → length bs ≡ k → gs ≡ take n (drop 1 l) → map state_of bs ≡ unbuffers k (take (length l - (1 + g)) (drop (1 + g) l)) → config_of t (record { active = get_or l 0 0; globals = gs ++ xs; buffers = bs ++ ys }) ≡ decoded t l
unfolding decoded
told_whole t g n k l gs xs bs ys ig ng kb eg eb tg tb =
    let a : take t.globals (gs ++ xs) ≡ gs = take_at gs xs t.globals (eg ∙ ng) in
    let b : take t.buffers (bs ++ ys) ≡ bs = take_at bs ys t.buffers (eb ∙ kb) in
    let r : take (length l - (1 + g)) (drop (1 + g) l) ≡ drop (1 + g) l = take_rest l (1 + g) in
    cc
