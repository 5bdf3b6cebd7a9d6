use Rattle.std.proofs.Common.{◌≡◌, true, false, rules, tests}
use Rattle.std.proofs.lemmas.Iterator.{IsFirst-from_position, YieldsList-from_slice}
use Rattle.program.specs.declared.flaw.Flaw.TheVariants.{Node}
use Rattle.program.specs.declared.node.Node.TheVariants.{Number}
use Rattle.program.specs.Table.{table, node_at}
use Rattle.program.specs.Limits.{sound_node}
use Rattle.program.proofs.Firsts.{first_item}
use Rattle.program.proofs.tables.Tables.node_flaw.Goals as goal

pub returns : goal.returns
unfolding node_at
returns c =
    let t = table c.args.self.now in
    first_item (sound_node t) (Number 0) Node _ t.nodes c.position.result _
    (IsFirst-from_position _ _ c.position.result (λ x. (sound_node t) x ≡ false) (λ x. (sound_node t) x ≡ true) c.position.ensures.ran (YieldsList-from_slice t.nodes cc) (λ x q k. search (rules, tests)) (λ x q k. search (rules, tests)))
    (λ i y k. search (rules, tests)) c.map.ensures.cases
