-- A program as it is written: trees whose leaves keep the digits and letters of their tokens. Assumes nothing.
use Rattle.std.specs.Prelude.{ℕ, suc, ◌+◌, List, [], ◌∷◌}
use Rattle.program.specs.declared.variable.Variable.{Variable}
use Rattle.program.specs.declared.operator.Operator.{Operator}
use Rattle.grammar.specs.Tokens.{value, Limit}

-- A term: a number, a variable, `!` before a term, or one or two terms in brackets.
pub data Term : Type 0 where
  numeral : List ℕ → Term
  variable : Variable → Term
  negated : Term → Term
  single : Term → Term
  double : Term → Operator → Term → Term

-- One term, or two with an operator between them.
pub data Sum : Type 0 where
  one : Term → Sum
  two : Term → Operator → Term → Sum

abbrev pub bracket : Sum → Term
bracket (one t) = single t
bracket (two t o u) = double t o u

-- An expression: `*`, or one or two terms.
pub data Expr : Type 0 where
  star : Expr
  sum : Sum → Expr

-- A statement without blocks. Procedures go by their letters, levels by their digits.
pub data Plain : Type 0 where
  skips : Plain
  assigns : Variable → Expr → Plain
  assumes : Expr → Plain
  calls : Variable → List ℕ → Expr → Plain
  returns : Expr → Plain
  posts : List ℕ → List ℕ → Expr → Plain
  yields : Plain
  zields : Plain

-- The statements of a block, one after another.
pub data Block : Type 0 where
  stop : Block
  plain : Plain → Block → Block
  branch : Expr → Block → Block → Block → Block
  loop : Expr → Block → Block → Block

-- The number of places that a block's statements take: one each, if and while too.
abbrev pub size : Block → ℕ
size stop = 0
size (plain s rest) = suc (size rest)
size (branch e s u rest) = suc (size s + size u + size rest)
size (loop e s rest) = suc (size s + size rest)

-- A procedure, a main with the number that is written after it, and a bound with its budget.
pub record Procedure : Type 0 where
  pub name : List ℕ
  pub body : Block

pub record Main : Type 0 where
  pub number : List ℕ
  pub body : Block

pub record Bound : Type 0 where
  pub limit : Limit
  pub budget : List ℕ

-- What the goal asks of a global: a value, or nothing.
pub data Aim : Type 0 where
  exactly : List ℕ → Aim
  anything : Aim

-- The numbers of values, globals, buffers and levels.
pub record Sizes : Type 0 where
  pub values : ℕ
  pub globals : ℕ
  pub buffers : ℕ
  pub levels : ℕ

-- A whole text.
pub record Source : Type 0 where
  pub values : List ℕ
  pub globals : List ℕ
  pub buffers : List ℕ
  pub levels : List ℕ
  pub procedures : List Procedure
  pub mains : List Main
  pub from : List (List ℕ)
  pub goal : List Aim
  pub bounds : List Bound

-- The sizes that the digits give.
abbrev pub sizes_from : List ℕ → List ℕ → List ℕ → List ℕ → Sizes
sizes_from v g n m = record { values = value v; globals = value g; buffers = value n; levels = value m }

abbrev pub sizes_of : Source → Sizes
sizes_of s = sizes_from s.values s.globals s.buffers s.levels

-- The places of procedures and of mains: those of their bodies, and one for each return that is added.
abbrev pub procedure_places : List Procedure → ℕ
procedure_places [] = 0
procedure_places (p ∷ ps) = suc (size p.body + procedure_places ps)

abbrev pub main_places : List Main → ℕ
main_places [] = 0
main_places (m ∷ ms) = suc (size m.body + main_places ms)
