-- Configurations and lines correspond. Assumes nothing.
use Rattle.std.proofs.Common.{◌≡◌, ℕ, zero, suc, true, ◌&&◌, eqb, List, [], ◌∷◌, map, length, get_or, sym, refl, ap, ◌∙◌, subst, ap₂, arith}
use Rattle.std.proofs.lemmas.List.{length-map}
use Rattle.std.proofs.lemmas.Bool.{and_parts, and_from, eqb-true, eq-eqb}
use Rattle.std.proofs.lemmas.Slice.Eq.{bytes_eq-Decides}
use Rattle.std.specs.Str.{bytes_eq}
use Rattle.program.specs.Table.{Table}
use Rattle.program.specs.Limits.{Sound}
use Rattle.configuration.specs.Config.{Pending, BufferState, Config, no_buffer, buffer_at, Alike, SameBuffer, Same}
use Rattle.configuration.specs.Layout.{written, sort, sorted_buffer, tidy, line, width}
use Rattle.configuration.specs.Reading.{decoded}
use Rattle.configuration.specs.Lawful.{Each, none, also, RangedBuffer, InRange, RoomyBuffer, InSpace, OrderlyBuffer, LawfulConfig}
use Rattle.configuration.specs.Tests.{lawful_config, lawful_line}
use Rattle.configuration.specs.Lines.{LinesLaw}
use Rattle.configuration.specs.Bytes.{each_map, each_sort, tidy_ranged, tidy_roomy, line_long, line_bytes}
use Rattle.configuration.proofs.Undone.{decoded_written, written_injective}
use Rattle.configuration.proofs.Counting.{alike_sym, alike_trans}
use Rattle.configuration.proofs.Sorting.{sort_alike, tidy_ascending, tidy_ascends}
use Rattle.configuration.proofs.Keys.{each_told, sorts_same}
use Rattle.configuration.proofs.Lawfulness.{config_passes, decoded_lawful}

-- The buffer of a number, sorted.
sorted_at : (bs : List BufferState) (k : ℕ) → get_or (map sorted_buffer bs) k no_buffer ≡ sorted_buffer (get_or bs k no_buffer)
unfolding sort
sorted_at [] k = refl
sorted_at (b ∷ bs) zero = refl
sorted_at (b ∷ bs) (suc k) = sorted_at bs k

-- Configurations that are the same once sorted are the same.
pub tidy_same : (c d : Config) → tidy c ≡ tidy d → Same c d
unfolding tidy
tidy_same c d e = record {
  active = ap (λ (x : Config). x.active) e;
  globals = ap (λ (x : Config). x.globals) e;
  many = sym (length-map c.buffers sorted_buffer) ∙ (ap (λ (x : Config). length x.buffers) e ∙ length-map d.buffers sorted_buffer);
  buffers = same;
}
  where
    same : (k : ℕ) → SameBuffer (buffer_at c k) (buffer_at d k)
    same k =
        let q : sorted_buffer (buffer_at c k) ≡ sorted_buffer (buffer_at d k) = sym (sorted_at c.buffers k) ∙ (ap (λ (x : Config). get_or x.buffers k no_buffer) e ∙ sorted_at d.buffers k) in
        let us = (buffer_at c k).pending in
        let vs = (buffer_at d k).pending in
        record {
          stack = ap (λ (b : BufferState). b.stack) q;
          pending = alike_trans (alike_sym (sort_alike us)) (subst (λ (ws : List Pending). Alike ws vs) (sym (ap (λ (b : BufferState). b.pending) q)) (sort_alike vs));
        }

-- Sorting keeps a configuration lawful.
pub tidy_lawful : (t : Table) (c : Config) → LawfulConfig t c → LawfulConfig t (tidy c)
unfolding tidy
tidy_lawful t c r = record { ranges = tidy_ranged t c r.ranges; space = tidy_roomy c r.space; order = each_map sorted_buffer kept r.order }
  where
    kept : (b : BufferState) → OrderlyBuffer t b → OrderlyBuffer t (sorted_buffer b)
    kept b q = record { stack = q.stack; pending = each_sort q.pending }

module _ (t : Table) (s : Sound t) where
  same_buffers : {bs cs : List BufferState} → Each (RangedBuffer t) bs → Each RoomyBuffer bs → Each (RangedBuffer t) cs → Each RoomyBuffer cs → length bs ≡ length cs → ((k : ℕ) → SameBuffer (get_or bs k no_buffer) (get_or cs k no_buffer)) → map sorted_buffer bs ≡ map sorted_buffer cs
  same_buffers none none none none h f = refl
  same_buffers none none (also q qs) (also w ws) h f = absurd (omega arith)
  same_buffers (also p ps) (also v vs) none none h f = absurd (omega arith)
  same_buffers (also {x = b} p ps) (also v vs) (also {x = c} q qs) (also w ws) h f = ap₂ ◌∷◌ first (same_buffers ps vs qs ws (omega arith) (λ k. f (suc k)))
    where
      first : sorted_buffer b ≡ sorted_buffer c
      first =
          let e = (f zero).stack in
          let g = sorts_same t s (each_told p.pending v.tasks) (each_told q.pending w.tasks) (f zero).pending in
          λ i. record { stack = e i; pending = g i }

  -- The same configuration, sorted, is one.
  pub same_tidy : (c d : Config) → InRange t c → InSpace c → InRange t d → InSpace d → Same c d → tidy c ≡ tidy d
  unfolding tidy
  same_tidy c d r w q v e =
      let p = e.active in
      let g = e.globals in
      let b = same_buffers r.buffers w q.buffers v e.many e.buffers in
      λ i. record { active = p i; globals = g i; buffers = b i }

  -- The line of a lawful configuration passes the tests.
  lawful_passes : (c : Config) → LawfulConfig t c → lawful_line t (line c) ≡ true
  unfolding lawful_line line
  lawful_passes c r = and_from _ _ (eq-eqb (length (line c)) (width t) (line_long t c r.ranges)) (and_from _ _ (ap (lawful_config t) back ∙ config_passes t (tidy c) q (tidy_ascends c)) ((bytes_eq-Decides (written (decoded t (line c))) (line c)).1 (ap written back)))
    where
      q : LawfulConfig t (tidy c)
      q = tidy_lawful t c r

      back : decoded t (line c) ≡ tidy c
      back = decoded_written t s (tidy c) q.ranges q.space

  lawful_told : (l : List ℕ) → lawful_line t l ≡ true → (c : Config) × (LawfulConfig t c × (line c ≡ l))
  unfolding lawful_line line
  lawful_told l e =
      let a = and_parts (eqb (length l) (width t)) (lawful_config t (decoded t l) && bytes_eq (written (decoded t l)) l) e in
      let b = and_parts (lawful_config t (decoded t l)) (bytes_eq (written (decoded t l)) l) a.1 in
      let r = decoded_lawful t l (eqb-true (length l) (width t) a.0) b.0 in
      (decoded t l, (r.0, ap written (tidy_ascending (decoded t l) r.1) ∙ (bytes_eq-Decides (written (decoded t l)) l).0 b.1))

-- Lines and configurations correspond.
pub lines_law : (t : Table) → Sound t → LinesLaw t
unfolding line
lines_law t s = record {
  long = λ c r w. line_long t c r;
  bytes = λ c r w. line_bytes t s c r;
  same_line = λ c d r w q v e. ap written (same_tidy t s c d r w q v e);
  same_config = λ c d r w q v e. tidy_same c d (written_injective t s (tidy c) (tidy d) (tidy_ranged t c r) (tidy_roomy c w) (tidy_ranged t d q) (tidy_roomy d v) e);
  lawful = lawful_passes t s;
  told = lawful_told t s;
}
