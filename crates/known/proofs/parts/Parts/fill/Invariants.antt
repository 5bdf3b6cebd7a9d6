use Rattle.std.proofs.Common.{◌≡◌, take}
use Rattle.program.specs.Table.{table}
use Rattle.program.specs.Edits.{with_nodes, with_places, with_procedures, with_mains, with_start, with_goal}
use Rattle.known.specs.Parts.{after_sizes, after_nodes, after_places, after_procedures, after_mains, after_start}
use Rattle.known.proofs.parts.Parts.fill.Given as goal

abbrev pub invariant-loop-node : goal.invariant-loop-node
invariant-loop-node l = table l.tables ≡ with_nodes (after_sizes l.self) (take l.node-index l.self.nodes.now)

abbrev pub invariant-loop-place : goal.invariant-loop-place
invariant-loop-place l = table l.tables ≡ with_places (after_nodes l.self) (take l.place-index l.self.places.now)

abbrev pub invariant-loop-entry : goal.invariant-loop-entry
invariant-loop-entry l = table l.tables ≡ with_procedures (after_places l.self) (take l.entry-index l.self.procedures.now)

abbrev pub invariant-loop-main : goal.invariant-loop-main
invariant-loop-main l = table l.tables ≡ with_mains (after_procedures l.self) (take l.main-index l.self.mains.now)

abbrev pub invariant-loop-value : goal.invariant-loop-value
invariant-loop-value l = table l.tables ≡ with_start (after_mains l.self) (take l.value-index l.self.start.now)

abbrev pub invariant-loop-wanted : goal.invariant-loop-wanted
invariant-loop-wanted l = table l.tables ≡ with_goal (after_start l.self) (take l.wanted-index l.self.goal.now)
