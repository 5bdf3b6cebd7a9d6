-- Texts that are read, and faults at their offsets; an offset here is the number of a token.
use Rattle.std.proofs.Common.{◌≡◌, List, [], ◌∷◌, ◌++◌, codes, refl}
use Rattle.lexer.specs.Lexemes.{Lexeme, word, number, mark}
use Rattle.lexer.specs.declared.mark.Mark.TheVariants.{Open, Close, Left, Semicolon, Becomes, Not, Star, Any}
use Rattle.program.specs.declared.kind.Kind.TheVariants.{Skip}
use Rattle.program.specs.Kinds.{kind_named}
use Rattle.grammar.specs.Tokens.{value_from, value, variable_of, operator_of, key_of, reserved, name_of, limit_of, of_kind}
use Rattle.grammar.specs.Sources.{Source, skips, stop, plain, anything}
use Rattle.grammar.specs.Results.{Outcome, ok, bad, expect}
use Rattle.grammar.specs.ReadExpr.{a_variable, a_number, a_name, start, an_operator, a_sum, term_in, inside, a_term, an_expr}
use Rattle.grammar.specs.ReadBlock.{opening, ended, ended_expr, set_rest, call_rest, post_rest, inner_block, branch_rest, loop_rest, statement_at, statements}
use Rattle.grammar.specs.ReadText.{between, sized, exactly_number, a_body, new_name, some_procedures, some_mains, some_values, an_aim, some_aims, a_limit, some_bounds, text_rest, a_text}
use Rattle.grammar.proofs.Exactness.{nth, reader}

-- What a list of tokens gives.
told : List Lexeme → Outcome Source
unfolding nth value_from value variable_of operator_of key_of reserved name_of limit_of kind_named expect a_variable a_number a_name start an_operator a_sum term_in inside a_term an_expr opening ended ended_expr set_rest call_rest post_rest inner_block branch_rest loop_rest statement_at statements between sized exactly_number a_body new_name some_procedures some_mains some_values an_aim some_aims a_limit some_bounds text_rest a_text
told ts = a_text (reader ts)

-- Two values, one global, one buffer and one level: eight tokens.
abbrev sizes : List Lexeme
sizes = word (codes "values") ∷ number (codes "2") ∷ word (codes "globals") ∷ number (codes "1") ∷ word (codes "buffers") ∷ number (codes "1") ∷ word (codes "levels") ∷ number (codes "1") ∷ []

abbrev main : List Lexeme
main = word (codes "main") ∷ number (codes "0") ∷ mark Open ∷ []

abbrev ending : List Lexeme
ending = word (codes "from") ∷ number (codes "01") ∷ word (codes "goal") ∷ mark Any ∷ []

whole : told (sizes ++ (main ++ (word (codes "skip") ∷ mark Semicolon ∷ mark Close ∷ (ending ++ (word (codes "bound") ∷ word (codes "skip") ∷ number (codes "255") ∷ []))))) ≡ ok (record { values = codes "2"; globals = codes "1"; buffers = codes "1"; levels = codes "1"; procedures = []; mains = record { number = codes "0"; body = plain skips stop } ∷ []; from = codes "01" ∷ []; goal = anything ∷ []; bounds = record { limit = of_kind Skip; budget = codes "255" } ∷ [] }) 21
unfolding told
whole = refl

one_value : told (word (codes "values") ∷ number (codes "1") ∷ []) ≡ bad 4 1
unfolding told
one_value = refl

wrong_main : told (sizes ++ (word (codes "main") ∷ number (codes "1") ∷ [])) ≡ bad 4 9
unfolding told
wrong_main = refl

no_such_global : told (sizes ++ (main ++ (word (codes "g1") ∷ []))) ≡ bad 4 11
unfolding told
no_such_global = refl

no_statement : told (sizes ++ (main ++ (word (codes "g8") ∷ []))) ≡ bad 3 11
unfolding told
no_statement = refl

star_in_brackets : told (sizes ++ (main ++ (word (codes "l") ∷ mark Becomes ∷ mark Left ∷ mark Star ∷ []))) ≡ bad 3 14
unfolding told
star_in_brackets = refl

-- The ninth of nine.
abbrev four_nots : List Lexeme
four_nots = mark Not ∷ mark Not ∷ mark Not ∷ mark Not ∷ []

ninth_not : told (sizes ++ (main ++ (word (codes "return") ∷ (four_nots ++ (four_nots ++ (mark Not ∷ [])))))) ≡ bad 7 20
unfolding told
ninth_not = refl

abbrev four_blocks : List Lexeme
four_blocks = word (codes "while") ∷ mark Star ∷ mark Open ∷ word (codes "while") ∷ mark Star ∷ mark Open ∷ word (codes "while") ∷ mark Star ∷ mark Open ∷ word (codes "while") ∷ mark Star ∷ mark Open ∷ []

ninth_block : told (sizes ++ (main ++ (four_blocks ++ four_blocks))) ≡ bad 7 34
unfolding told
ninth_block = refl

reserved_name : told (sizes ++ (word (codes "proc") ∷ word (codes "resume") ∷ [])) ≡ bad 3 9
unfolding told
reserved_name = refl

abbrev empty : List Lexeme
empty = word (codes "proc") ∷ word (codes "main0") ∷ mark Open ∷ mark Close ∷ []

declared_twice : told (sizes ++ (empty ++ empty)) ≡ bad 5 13
unfolding told
declared_twice = refl

large_budget : told (sizes ++ (main ++ (mark Close ∷ (ending ++ (word (codes "bound") ∷ word (codes "delay") ∷ number (codes "256") ∷ []))))) ≡ bad 4 18
unfolding told
large_budget = refl

too_soon : told (sizes ++ main) ≡ bad 3 11
unfolding told
too_soon = refl
