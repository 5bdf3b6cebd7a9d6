use Rattle.std.proofs.Common.{◌≡◌, Bool, true, false, rules, tests, ℕ, ltb}
use Rattle.std.proofs.lemmas.Iterator.{IsFirst-from_position, YieldsList-from_slice}
use Rattle.program.specs.declared.flaw.Flaw.TheVariants.{StartValue}
use Rattle.program.specs.Table.{table}
use Rattle.program.proofs.Firsts.{first_item}
use Rattle.program.proofs.tables.Tables.start_flaw.Goals as goal

pub returns : goal.returns
returns c =
    let t = table c.args.self.now in
    let fine : ℕ → Bool = λ x. ltb x t.values in
    first_item fine 0 StartValue _ t.start c.position.result _
    (IsFirst-from_position _ _ c.position.result (λ x. fine x ≡ false) (λ x. fine x ≡ true) c.position.ensures.ran (YieldsList-from_slice t.start cc) (λ x q k. search (rules, tests)) (λ x q k. search (rules, tests)))
    (λ i y k. search (rules, tests)) c.map.ensures.cases
