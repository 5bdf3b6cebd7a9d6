use Rattle.std.proofs.Common.{◌≡◌, true, false, rules, tests, None}
use Rattle.std.proofs.lemmas.Iterator.{IsFirst-from_position, YieldsList-from_slice}
use Rattle.program.specs.declared.flaw.Flaw.TheVariants.{GoalValue}
use Rattle.program.specs.Table.{table}
use Rattle.program.specs.Limits.{sound_goal}
use Rattle.program.proofs.Firsts.{first_item}
use Rattle.program.proofs.tables.Tables.goal_flaw.Goals as goal

pub returns : goal.returns
returns c =
    let t = table c.args.self.now in
    first_item (sound_goal t) None GoalValue _ t.goal c.position.result _
    (IsFirst-from_position _ _ c.position.result (λ x. (sound_goal t) x ≡ false) (λ x. (sound_goal t) x ≡ true) c.position.ensures.ran (YieldsList-from_slice t.goal cc) (λ x q k. search (rules, tests)) (λ x q k. search (rules, tests)))
    (λ i y k. search (rules, tests)) c.map.ensures.cases
