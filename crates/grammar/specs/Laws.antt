-- What reading a text promises. Assumes nothing.
use Rattle.std.specs.Prelude.{◌≡◌, ℕ}
use Rattle.lexer.specs.Lexemes.{end, token, Reader}
use Rattle.grammar.specs.Sources.{Source}
use Rattle.grammar.specs.Spelling.{spelt}
use Rattle.grammar.specs.Rules.{Keeps}
use Rattle.grammar.specs.Results.{ok, Reads}
use Rattle.grammar.specs.ReadText.{a_text}

-- A text spells a source: its tokens from the first offset on, and then the end at b.
pub record Spells (r : Reader) (s : Source) (b : ℕ) : Type 0 where
  pub tokens : Reads r r.first (spelt s) b
  pub ends : r.look b ≡ token end

-- A source is read exactly where the text spells it and it keeps the rules; a text spells one such source at most, and
-- so do tokens.
pub record Exact (r : Reader) : Type 0 where
  pub spelt_there : (s : Source) (b : ℕ) → a_text r ≡ ok s b → Spells r s b
  pub keeps : (s : Source) (b : ℕ) → a_text r ≡ ok s b → Keeps s
  pub is_read : (s : Source) (b : ℕ) → Spells r s b → Keeps s → a_text r ≡ ok s b
  pub unique : (s u : Source) (b c : ℕ) → Spells r s b → Keeps s → Spells r u c → Keeps u → s ≡ u
  pub spelt_once : (s u : Source) → Keeps s → Keeps u → spelt s ≡ spelt u → s ≡ u
