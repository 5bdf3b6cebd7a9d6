-- The tables of the known programs. Assumes nothing.
use Rattle.std.specs.Prelude.{◌≡◌, ℕ, ◌≤◌, [], ◌∷◌, Some}
use Rattle.program.specs.declared.variable.Variable.TheVariants.{Global, Local}
use Rattle.program.specs.declared.expression.Expression.TheVariants.{Any, Of}
use Rattle.program.specs.declared.operator.Operator.TheVariants.{Plus, Minus, Equal, Less}
use Rattle.program.specs.declared.node.Node.TheVariants.{Number, Read, Join}
use Rattle.program.specs.declared.statement.Statement.TheVariants.{Skip, Assume, If, Assign, While, Call, Return, Post, Yield, Zield}
use Rattle.program.specs.declared.flaw.Flaw.TheVariants.{GoalValue}
use Rattle.program.specs.Table.{Table}
use Rattle.known.specs.declared.error.KnownError.{KnownError}
use Rattle.known.specs.declared.error.KnownError.TheVariants.{Memory, Room, Flawed}

-- Two tasks that add 1, one posted above main and one at its level.
abbrev pub bumps_table : ℕ → Table
bumps_table n = record {
  values = 4;
  globals = 1;
  buffers = 1;
  levels = 2;
  places = Assign (Global 0) (Of 4) 1 ∷ Return (Of 0) ∷ Post 1 0 (Of 0) 3 ∷ Post 0 0 (Of 0) 4 ∷ Assume (Of 5) 5 ∷ Assign (Global 0) (Of 2) 6 ∷ Return (Of 0) ∷ [];
  nodes = Number 0 ∷ Number 1 ∷ Number 3 ∷ Read (Global 0) ∷ Join Plus 3 1 ∷ Join Equal 3 1 ∷ [];
  procedures = 0 ∷ [];
  mains = 2 ∷ [];
  start = 0 ∷ [];
  goal = Some n ∷ [];
}

-- Why it is not made: its goal is no value, or there is no memory.
abbrev pub BumpsFault : ℕ → KnownError → Type 0
BumpsFault n Memory = Unit {0}
BumpsFault n Room = ⊥
BumpsFault n (Flawed f) = (4 ≤ n) × (f ≡ GoalValue 0)

-- Two tasks that put their value, in either order.
abbrev pub puts_table : Table
puts_table = record {
  values = 4;
  globals = 1;
  buffers = 1;
  levels = 1;
  places = Assign (Global 0) (Of 3) 1 ∷ Return (Of 0) ∷ Post 0 0 (Of 1) 3 ∷ Post 0 0 (Of 2) 4 ∷ Return (Of 0) ∷ [];
  nodes = Number 0 ∷ Number 1 ∷ Number 2 ∷ Read Local ∷ [];
  procedures = 0 ∷ [];
  mains = 2 ∷ [];
  start = 0 ∷ [];
  goal = Some 2 ∷ [];
}

-- Two buffers, and nothing that makes the second one active.
abbrev pub two_mains_table : Table
two_mains_table = record {
  values = 2;
  globals = 1;
  buffers = 2;
  levels = 1;
  places = Return (Of 0) ∷ Assign (Global 0) (Of 1) 2 ∷ Return (Of 0) ∷ [];
  nodes = Number 0 ∷ Number 1 ∷ [];
  procedures = [];
  mains = 0 ∷ 1 ∷ [];
  start = 0 ∷ [];
  goal = Some 1 ∷ [];
}

-- A procedure that calls itself without end.
abbrev pub recursive_table : Table
recursive_table = record {
  values = 2;
  globals = 1;
  buffers = 1;
  levels = 1;
  places = Call (Global 0) 0 (Of 0) 1 ∷ Return (Of 0) ∷ Call (Global 0) 0 (Of 0) 3 ∷ Return (Of 0) ∷ [];
  nodes = Number 0 ∷ [];
  procedures = 0 ∷ [];
  mains = 2 ∷ [];
  start = 0 ∷ [];
  goal = Some 1 ∷ [];
}

-- A procedure that has every statement, with `*` and without.
abbrev pub sampler_table : Table
sampler_table = record {
  values = 3;
  globals = 1;
  buffers = 2;
  levels = 2;
  places = Skip 1 ∷ Assume (Of 4) 2 ∷ If Any 3 4 ∷ Assign (Global 0) Any 5 ∷ Yield 5 ∷ While Any 6 7 ∷ Call Local 0 (Of 2) 5 ∷ Zield 8 ∷ Post 1 0 Any 9 ∷ If (Of 2) 10 11 ∷ Call (Global 0) 0 Any 12 ∷ Assign Local (Of 5) 12 ∷ While (Of 6) 13 14 ∷ Skip 12 ∷ Return Any ∷ Return (Of 0) ∷ Post 0 0 (Of 1) 17 ∷ Return (Of 0) ∷ Return (Of 0) ∷ [];
  nodes = Number 0 ∷ Number 1 ∷ Read (Global 0) ∷ Read Local ∷ Join Equal 3 1 ∷ Join Minus 2 1 ∷ Join Less 3 2 ∷ [];
  procedures = 0 ∷ [];
  mains = 16 ∷ 18 ∷ [];
  start = 0 ∷ [];
  goal = Some 2 ∷ [];
}
