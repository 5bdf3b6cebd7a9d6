-- What a program is, as plain lists. Assumes nothing.
use Rattle.std.specs.Prelude.{ℕ, List, vec_items, Option, slice_index, slice_index_or}
use Rattle.program.specs.declared.expression.Expression.TheVariants.{Any}
use Rattle.program.specs.declared.node.Node.{Node}
use Rattle.program.specs.declared.node.Node.TheVariants.{Number}
use Rattle.program.specs.declared.statement.Statement.{Statement}
use Rattle.program.specs.declared.statement.Statement.TheVariants.{Return}
use Rattle.program.specs.declared.tables.Tables.{Tables}

-- How many values, globals, buffers and levels there are, and the tables: statements by place, nodes of
-- expressions, the first place of each procedure and of each main, the start values and the goal pattern.
pub record Table : Type 0 where
  pub values : ℕ
  pub globals : ℕ
  pub buffers : ℕ
  pub levels : ℕ
  pub places : List Statement
  pub nodes : List Node
  pub procedures : List ℕ
  pub mains : List ℕ
  pub start : List ℕ
  pub goal : List (Option ℕ)

abbrev pub table : Tables → Table
table t = record {
  values = t.values;
  globals = t.globals;
  buffers = t.buffers;
  levels = t.levels;
  places = vec_items t.places;
  nodes = vec_items t.nodes;
  procedures = vec_items t.procedures;
  mains = vec_items t.mains;
  start = vec_items t.start;
  goal = vec_items t.goal;
}

-- What stands at a place; past the last one, where no frame of a program stands, a return.
unfoldable pub statement_at : Table → ℕ → Statement
statement_at t k = slice_index_or t.places k (Return Any)

-- The first place of a procedure.
unfoldable pub entry : Table → ℕ → ℕ
entry t p = slice_index t.procedures p

-- A node; past the last one, where no expression of a program leads, the number 0.
unfoldable pub node_at : Table → ℕ → Node
node_at t k = slice_index_or t.nodes k (Number 0)
