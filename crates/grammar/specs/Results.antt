-- What reading a piece of a text gives, and how readings are joined. Assumes nothing.
use Rattle.std.specs.Prelude.{◌≡◌, ℕ, Bool, true, false, List, [], ◌∷◌, Some, None, Option}
use Rattle.lexer.specs.Lexemes.{Lexeme, Seen, token, long_row, stranger, Reader}
use Rattle.grammar.specs.Tokens.{same}

-- A piece and the offset of the token after it, or a fault's number and its offset.
pub data Outcome (A : Type 0) : Type 0 where
  ok : A → ℕ → Outcome A
  bad : ℕ → ℕ → Outcome A

-- One reading and then another.
abbrev pub then : {A B : Type 0} → Outcome A → (A → ℕ → Outcome B) → Outcome B
then (ok x b) f = f x b
then (bad n a) f = bad n a

-- A test that must pass; what must be there.
abbrev pub guard : {A : Type 0} → Bool → ℕ → ℕ → Outcome A → Outcome A
guard true n a p = p
guard false n a p = bad n a

abbrev pub need : {A B : Type 0} → Option A → ℕ → (A → Outcome B) → Outcome B
need (Some x) a f = f x
need None a f = bad 3 a

-- What stands at an offset must be a token.
abbrev pub on_seen : {A : Type 0} → Seen → ℕ → (Lexeme → Outcome A) → Outcome A
on_seen (token t) a f = f t
on_seen long_row a f = bad 2 a
on_seen stranger a f = bad 2 a

abbrev pub seeing : {A : Type 0} → Reader → ℕ → (Lexeme → Outcome A) → Outcome A
seeing r a f = on_seen (r.look a) a f

-- A token that is due.
unfoldable pub expect : Reader → Lexeme → ℕ → Outcome (Unit {0})
expect r due a = seeing r a (λ t. guard (same t due) 3 a (ok tt (r.next a)))

-- The tokens are met one after another from offset a on, and the token after them at b.
abbrev pub Reads : Reader → ℕ → List Lexeme → ℕ → Type 0
Reads r a [] b = a ≡ b
Reads r a (t ∷ ts) b = (r.look a ≡ token t) × Reads r (r.next a) ts b
