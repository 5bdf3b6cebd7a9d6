use Rattle.std.proofs.Common.{◌≡◌, true, false, rules, tests}
use Rattle.std.proofs.lemmas.Iterator.{IsFirst-from_position, YieldsList-from_slice}
use Rattle.program.specs.declared.flaw.Flaw.TheVariants.{Place}
use Rattle.program.specs.declared.expression.Expression.TheVariants.{Any}
use Rattle.program.specs.declared.statement.Statement.TheVariants.{Return}
use Rattle.program.specs.Table.{table, statement_at}
use Rattle.program.specs.Limits.{linked}
use Rattle.program.proofs.Firsts.{first_item}
use Rattle.program.proofs.tables.Tables.place_flaw.Goals as goal

pub returns : goal.returns
unfolding statement_at
returns c =
    let t = table c.args.self.now in
    first_item (linked t) (Return Any) Place _ t.places c.position.result _
    (IsFirst-from_position _ _ c.position.result (λ x. (linked t) x ≡ false) (λ x. (linked t) x ≡ true) c.position.ensures.ran (YieldsList-from_slice t.places cc) (λ x q k. search (rules, tests)) (λ x q k. search (rules, tests)))
    (λ i y k. search (rules, tests)) c.map.ensures.cases
