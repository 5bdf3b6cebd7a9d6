-- What reading a text promises, for every reader.
use Rattle.std.proofs.Common.{◌≡◌, ℕ, zero, suc, List, [], ◌∷◌, ◌++◌, length, sym, refl, ap, ◌∙◌, subst, append_assoc, append-nil}
use Rattle.lexer.specs.Lexemes.{Lexeme, end, Seen, token, Reader}
use Rattle.grammar.specs.Sources.{Source}
use Rattle.grammar.specs.Spelling.{spelt}
use Rattle.grammar.specs.Rules.{Keeps}
use Rattle.grammar.specs.Results.{Reads}
use Rattle.grammar.specs.Laws.{Spells, Exact}
use Rattle.grammar.proofs.Texts.{text_sound}
use Rattle.grammar.proofs.TextsBack.{text_complete, one_source}

-- The reader of a list of tokens, by their numbers.
unfoldable pub nth : List Lexeme → ℕ → Seen
nth [] k = token end
nth (t ∷ ts) zero = token t
nth (t ∷ ts) (suc k) = nth ts k

abbrev pub reader : List Lexeme → Reader
reader ts = record { first = 0; look = λ k. nth ts k; next = λ k. suc k }

nth_after : (us : List Lexeme) (t : Lexeme) (ts : List Lexeme) → nth (us ++ (t ∷ ts)) (length us) ≡ token t
unfolding nth
nth_after [] t ts = refl
nth_after (u ∷ us) t ts = nth_after us t ts

nth_end : (us : List Lexeme) → nth us (length us) ≡ token end
unfolding nth
nth_end [] = refl
nth_end (u ∷ us) = nth_end us

length_one : (us : List Lexeme) (t : Lexeme) → length (us ++ (t ∷ [])) ≡ suc (length us)
length_one [] t = refl
length_one (u ∷ us) t = ap suc (length_one us t)

-- A list's reader meets its tokens.
meets : (all us ts : List Lexeme) → all ≡ us ++ ts → Reads (reader all) (length us) ts (length all)
meets all us [] e = ap length (sym (e ∙ append-nil us))
meets all us (t ∷ ts) e =
    (ap (λ x. nth x (length us)) e ∙ nth_after us t ts, subst (λ k. Reads (reader all) k ts (length all)) (length_one us t) (meets all (us ++ (t ∷ [])) ts (e ∙ sym (append_assoc us (t ∷ []) ts))))

abbrev spells_list : (s : Source) → Spells (reader (spelt s)) s (length (spelt s))
spells_list s = record { tokens = meets (spelt s) [] (spelt s) refl; ends = nth_end (spelt s) }

once : (s u : Source) → Keeps s → Keeps u → spelt s ≡ spelt u → s ≡ u
once s u k m e =
    let h = spells_list s in
    let i : Spells (reader (spelt s)) u (length (spelt u)) = rw e (spells_list u) in
    one_source (reader (spelt s)) s u (length (spelt s)) (length (spelt u)) h.tokens h.ends k i.tokens i.ends m

-- Every reader is read exactly.
pub exact : (r : Reader) → Exact r
exact r = record {
  spelt_there = λ s b e. let k = text_sound r s b e in record { tokens = k.0; ends = k.1 };
  keeps = λ s b e. (text_sound r s b e).2;
  is_read = λ s b h k. text_complete r s b h.tokens h.ends k;
  unique = λ s u b c h k i m. one_source r s u b c h.tokens h.ends k i.tokens i.ends m;
  spelt_once = once;
}
