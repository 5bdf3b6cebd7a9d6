-- How a flaw is printed. Assumes nothing.
use Rattle.std.specs.Prelude.{ℕ, List, ◌++◌, codes}
use Rattle.std.specs.Fmt.{decimal}
use Rattle.program.specs.declared.flaw.Flaw.{Flaw}
use Rattle.program.specs.declared.flaw.Flaw.TheVariants.{Values, Globals, Buffers, Levels, Places, Procedures, Nodes, Mains, Start, Goal, Place, Node, Depth, Procedure, Main, StartValue, GoalValue}

abbrev pub flaw_text : Flaw → List ℕ
flaw_text Values = codes "too few or too many values"
flaw_text Globals = codes "too few or too many globals"
flaw_text Buffers = codes "too few or too many buffers"
flaw_text Levels = codes "too few or too many levels"
flaw_text Places = codes "too many places"
flaw_text Procedures = codes "too many procedures"
flaw_text Nodes = codes "too many nodes"
flaw_text Mains = codes "not one main for each buffer"
flaw_text Start = codes "not one start value for each global"
flaw_text Goal = codes "not one goal entry for each global"
flaw_text (Place n) = codes "place " ++ (decimal n ++ codes " names what is not there")
flaw_text (Node n) = codes "node " ++ (decimal n ++ codes " holds what is not there")
flaw_text (Depth n) = codes "node " ++ (decimal n ++ codes " is too deep")
flaw_text (Procedure n) = codes "procedure " ++ (decimal n ++ codes " has no first place")
flaw_text (Main n) = codes "main " ++ (decimal n ++ codes " has no first place")
flaw_text (StartValue n) = codes "the start of global " ++ (decimal n ++ codes " is no value")
flaw_text (GoalValue n) = codes "the goal of global " ++ (decimal n ++ codes " is no value")
