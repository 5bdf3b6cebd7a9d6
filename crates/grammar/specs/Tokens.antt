-- Which tokens are which: sameness, the words of the grammar, and what a token can stand for. Assumes nothing.
use Rattle.std.specs.Prelude.{ℕ, ◌+◌, ◌-◌, ◌*◌, Bool, true, false, cond, List, [], ◌∷◌, ◌++◌, map, Some, None, codes, Option, ◌==◌}
use Rattle.std.specs.List.{find, list_any}
use Rattle.std.specs.Str.{bytes_eq}
use Rattle.lexer.specs.Lexemes.{Lexeme, word, number, mark, end}
use Rattle.lexer.specs.declared.mark.Mark.{Mark}
use Rattle.lexer.specs.declared.mark.Mark.TheVariants.{Open, Close, Left, Right, Semicolon, Becomes, Plus, Minus, Equal, Less, And, Or, Not, Star, Any}
use Rattle.program.specs.declared.variable.Variable.{Variable}
use Rattle.program.specs.declared.variable.Variable.TheVariants.{Global, Local}
use Rattle.program.specs.declared.operator.Operator.{Operator}
use Rattle.program.specs.declared.operator.Operator.TheVariants as op
use Rattle.program.specs.declared.kind.Kind.{Kind}
use Rattle.program.specs.Kinds.{named, kinds, kind_named}

-- Marks by number, and whether two tokens are the same.
abbrev pub mark_number : Mark → ℕ
mark_number Open = 0
mark_number Close = 1
mark_number Left = 2
mark_number Right = 3
mark_number Semicolon = 4
mark_number Becomes = 5
mark_number Plus = 6
mark_number Minus = 7
mark_number Equal = 8
mark_number Less = 9
mark_number And = 10
mark_number Or = 11
mark_number Not = 12
mark_number Star = 13
mark_number Any = 14

abbrev pub same : Lexeme → Lexeme → Bool
same (word u) (word w) = bytes_eq u w
same (word u) (number w) = false
same (word u) (mark n) = false
same (word u) end = false
same (number u) (word w) = false
same (number u) (number w) = bytes_eq u w
same (number u) (mark n) = false
same (number u) end = false
same (mark m) (word w) = false
same (mark m) (number w) = false
same (mark m) (mark n) = mark_number m == mark_number n
same (mark m) end = false
same end (word w) = false
same end (number w) = false
same end (mark n) = false
same end end = true

-- A number's value, from its digits.
unfoldable pub value_from : ℕ → List ℕ → ℕ
value_from n [] = n
value_from n (d ∷ ds) = value_from (n * 10 + (d - 48)) ds

unfoldable pub value : List ℕ → ℕ
value ds = value_from 0 ds

abbrev pub digits_of : Lexeme → Option (List ℕ)
digits_of (word w) = None
digits_of (number ds) = Some ds
digits_of (mark m) = None
digits_of end = None

-- The variables: l, and g0 to g7.
abbrev pub letters : Variable → List ℕ
letters (Global n) = 103 ∷ (48 + n) ∷ []
letters Local = 108 ∷ []

abbrev pub variables : List Variable
variables = Local ∷ Global 0 ∷ Global 1 ∷ Global 2 ∷ Global 3 ∷ Global 4 ∷ Global 5 ∷ Global 6 ∷ Global 7 ∷ []

unfoldable pub variable_of : Lexeme → Option Variable
variable_of t = find (λ v. same t (word (letters v))) variables

-- What joins two terms.
abbrev pub sign : Operator → Mark
sign op.Plus = Plus
sign op.Minus = Minus
sign op.Equal = Equal
sign op.Less = Less
sign op.And = And
sign op.Or = Or

abbrev pub operators : List Operator
operators = op.Plus ∷ op.Minus ∷ op.Equal ∷ op.Less ∷ op.And ∷ op.Or ∷ []

unfoldable pub operator_of : Lexeme → Option Operator
operator_of t = find (λ o. same t (mark (sign o))) operators

-- The words that begin a statement.
pub data Key : Type 0 where
  on_skip : Key
  on_assume : Key
  on_if : Key
  on_while : Key
  on_call : Key
  on_return : Key
  on_post : Key
  on_yield : Key
  on_zield : Key

abbrev pub key_letters : Key → List ℕ
key_letters on_skip = codes "skip"
key_letters on_assume = codes "assume"
key_letters on_if = codes "if"
key_letters on_while = codes "while"
key_letters on_call = codes "call"
key_letters on_return = codes "return"
key_letters on_post = codes "post"
key_letters on_yield = codes "yield"
key_letters on_zield = codes "zield"

abbrev pub keys : List Key
keys = on_skip ∷ on_assume ∷ on_if ∷ on_while ∷ on_call ∷ on_return ∷ on_post ∷ on_yield ∷ on_zield ∷ []

unfoldable pub key_of : Lexeme → Option Key
key_of t = find (λ k. same t (word (key_letters k))) keys

-- Words that name no procedure: those of the grammar, the kinds' names and the variables.
abbrev pub grammar_words : List (List ℕ)
grammar_words = codes "values" ∷ codes "globals" ∷ codes "buffers" ∷ codes "levels" ∷ codes "proc" ∷ codes "main" ∷ codes "from" ∷ codes "goal" ∷ codes "bound" ∷ codes "skip" ∷ codes "assume" ∷ codes "if" ∷ codes "else" ∷ codes "while" ∷ codes "call" ∷ codes "return" ∷ codes "post" ∷ codes "yield" ∷ codes "zield" ∷ codes "delay" ∷ []

unfoldable pub reserved : List ℕ → Bool
reserved w = list_any (bytes_eq w) (grammar_words ++ (map named kinds ++ map letters variables))

unfoldable pub name_of : Lexeme → Option (List ℕ)
name_of (word w) = cond (reserved w) None (Some w)
name_of (number ds) = None
name_of (mark m) = None
name_of end = None

-- What a bound bounds: the delay, or the steps of a kind.
pub data Limit : Type 0 where
  of_delay : Limit
  of_kind : Kind → Limit

abbrev pub limit_letters : Limit → List ℕ
limit_letters of_delay = codes "delay"
limit_letters (of_kind k) = named k

abbrev pub as_limit : Option Kind → Option Limit
as_limit (Some k) = Some (of_kind k)
as_limit None = None

unfoldable pub limit_of : Lexeme → Option Limit
limit_of (word w) = cond (bytes_eq w (codes "delay")) (Some of_delay) (as_limit (kind_named w))
limit_of (number ds) = None
limit_of (mark m) = None
limit_of end = None
