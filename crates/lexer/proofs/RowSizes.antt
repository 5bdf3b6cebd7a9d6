-- How a row's size grows, byte after byte. Assumes nothing.
use Rattle.std.proofs.Common.{◌≡◌, ℕ, ◌≤◌, List, length, drop, refl}
use Rattle.std.proofs.lemmas.List.Sums.{prefix_len-drop_all, prefix_len-le-length}
use Rattle.lexer.specs.declared.row.Row.{Row}
use Rattle.std.specs.List.{prefix_len}
use Rattle.lexer.specs.declared.row.Row.TheVariants.{Word, Number, Blanks}
use Rattle.lexer.specs.Bytes.{letter_or_digit}
use Rattle.lexer.specs.Classes.{digit, blank}
use Rattle.lexer.specs.Rows.{in_row, row_size}

pub row_ends : (r : Row) (t : List ℕ) (i : ℕ) → length t ≤ i → row_size r (drop i t) ≡ 0
unfolding row_size
row_ends r t i h = prefix_len-drop_all (in_row r) t i h

pub row_within : (r : Row) (t : List ℕ) → row_size r t ≤ length t
unfolding row_size
row_within r t = prefix_len-le-length (in_row r) t

-- The tests that the rows' bytes pass.
pub word_size : (t : List ℕ) → row_size Word t ≡ prefix_len letter_or_digit t
unfolding row_size in_row
word_size t = refl

pub number_size : (t : List ℕ) → row_size Number t ≡ prefix_len digit t
unfolding row_size in_row
number_size t = refl

pub blanks_size : (t : List ℕ) → row_size Blanks t ≡ prefix_len blank t
unfolding row_size in_row
blanks_size t = refl
