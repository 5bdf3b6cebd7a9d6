-- A reading as one over what is left of the text. Assumes nothing.
use Rattle.std.proofs.Common.{◌≡◌, ℕ, ◌+◌, List, [], ◌∷◌, drop, sym, refl, ap, ◌∙◌, subst}
use Rattle.std.proofs.lemmas.List.{drop-drop}
use Rattle.lexer.specs.Bytes.{Reads}
use Rattle.lexer.specs.Lexemes.{Lexeme}
use Rattle.lexer.specs.Lexemes.Lexeme.{end}
use Rattle.lexer.specs.Lexemes.Seen.{token}
use Rattle.lexer.specs.Reading.{seen, stride, reader_of}
use Rattle.lexer.proofs.Seeing.{end_empty}

-- These tokens stand one after the other, and nothing behind them.
abbrev pub Runs : List ℕ → List Lexeme → Type 0
Runs t [] = t ≡ []
Runs t (l ∷ ls) = (seen t ≡ token l) × Runs (drop (stride t) t) ls

pub runs_read : (t : List ℕ) (o : ℕ) (ls : List Lexeme) (b : ℕ) → Reads (reader_of t) o ls b → seen (drop b t) ≡ token end → Runs (drop o t) ls
runs_read t o [] b r e = end_empty (drop o t) (ap (λ (i : ℕ). seen (drop i t)) r ∙ e)
runs_read t o (l ∷ ls) b r e = (
  r.0,
  subst (λ (u : List ℕ). Runs u ls) (sym (drop-drop (stride (drop o t)) o t)) (runs_read t (o + stride (drop o t)) ls b r.1 e),
)

pub read_runs : (t : List ℕ) (o : ℕ) (ls : List Lexeme) → Runs (drop o t) ls → (b : ℕ) × Reads (reader_of t) o ls b × (seen (drop b t) ≡ token end)
read_runs t o [] r = (o, refl, ap seen r)
read_runs t o (l ∷ ls) r =
    let next = read_runs t (o + stride (drop o t)) ls (subst (λ (u : List ℕ). Runs u ls) (drop-drop (stride (drop o t)) o t) r.1) in
    (next.0, (r.0, next.1), next.2)
