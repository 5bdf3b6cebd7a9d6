use Rattle.std.proofs.Common.{None, refl, ap, ◌∙◌, rules, arith}
use Rattle.std.proofs.lemmas.List.{take_all}
use Rattle.program.specs.declared.node.Node.TheVariants.{Number}
use Rattle.program.specs.declared.statement.Statement.TheVariants.{Skip}
use Rattle.program.specs.Table.{Table, table}
use Rattle.program.specs.Edits.{with_nodes, with_node, with_places, with_place, with_procedures, with_procedure, with_mains, with_main, with_start, with_start_value, with_goal, with_goal_value}
use Rattle.known.specs.Parts.{after_sizes, after_nodes, after_places, after_procedures, after_mains, after_start}
use Rattle.known.proofs.Filling.{room, has, more}
use Rattle.known.proofs.parts.Parts.fill.Goals as goal

pub loop-node-preserved : goal.loop-node-preserved
unfolding with_node
loop-node-preserved c =
    more with_nodes (λ (w : Table). w.nodes) 4096 (after_sizes c.args.self.now) (table c.loop-node.tables) (table c.add_node.new.self) c.args.self.now.nodes.now c.loop-node.node-index
    c.loop-node-test.true (λ l. refl) (λ l m. refl) c.loop-node.invariant (room (table c.loop-node.tables).nodes 4096 c.in_ok-add_node.field-0 c.add_node.result c.add_node.ensures.number c.in_ok-add_node.was) _ (Number 0) refl c.add_node.ensures.after

pub loop-place-preserved : goal.loop-place-preserved
unfolding with_place
loop-place-preserved c =
    more with_places (λ (w : Table). w.places) 200 (after_nodes c.args.self.now) (table c.loop-place.tables) (table c.add_place.new.self) c.args.self.now.places.now c.loop-place.place-index
    c.loop-place-test.true (λ l. refl) (λ l m. refl) c.loop-place.invariant (room (table c.loop-place.tables).places 200 c.in_ok-add_place.field-0 c.add_place.result c.add_place.ensures.number c.in_ok-add_place.was) _ (Skip 0) refl c.add_place.ensures.after

pub loop-entry-preserved : goal.loop-entry-preserved
unfolding with_procedure
loop-entry-preserved c =
    more with_procedures (λ (w : Table). w.procedures) 16 (after_places c.args.self.now) (table c.loop-entry.tables) (table c.add_procedure.new.self) c.args.self.now.procedures.now c.loop-entry.entry-index
    c.loop-entry-test.true (λ l. refl) (λ l m. refl) c.loop-entry.invariant (room (table c.loop-entry.tables).procedures 16 c.in_ok-add_procedure.field-0 c.add_procedure.result c.add_procedure.ensures.number c.in_ok-add_procedure.was) _ 0 refl c.add_procedure.ensures.after

pub loop-main-preserved : goal.loop-main-preserved
unfolding with_main
loop-main-preserved c =
    more with_mains (λ (w : Table). w.mains) 3 (after_procedures c.args.self.now) (table c.loop-main.tables) (table c.add_main.new.self) c.args.self.now.mains.now c.loop-main.main-index
    c.loop-main-test.true (λ l. refl) (λ l m. refl) c.loop-main.invariant (has _ c.add_main.result c.add_main.ensures.told (search rules)) _ 0 refl c.add_main.ensures.after

pub loop-value-preserved : goal.loop-value-preserved
unfolding with_start_value
loop-value-preserved c =
    more with_start (λ (w : Table). w.start) 8 (after_mains c.args.self.now) (table c.loop-value.tables) (table c.add_start.new.self) c.args.self.now.start.now c.loop-value.value-index
    c.loop-value-test.true (λ l. refl) (λ l m. refl) c.loop-value.invariant (has _ c.add_start.result c.add_start.ensures.told (search rules)) _ 0 refl c.add_start.ensures.after

pub loop-wanted-preserved : goal.loop-wanted-preserved
unfolding with_goal_value
loop-wanted-preserved c =
    more with_goal (λ (w : Table). w.goal) 8 (after_start c.args.self.now) (table c.loop-wanted.tables) (table c.add_goal.new.self) c.args.self.now.goal.now c.loop-wanted.wanted-index
    c.loop-wanted-test.true (λ l. refl) (λ l m. refl) c.loop-wanted.invariant (has _ c.add_goal.result c.add_goal.ensures.told (search rules)) _ None refl c.add_goal.ensures.after

pub returns : goal.returns
returns c = c.loop-wanted.invariant ∙ ap (with_goal (after_start c.args.self.now)) (take_all c.loop-wanted.wanted-index c.args.self.now.goal.now (omega arith))
