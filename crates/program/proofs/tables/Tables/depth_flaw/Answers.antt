use Rattle.std.proofs.Common.{◌≡◌, true, false, length, rules, tests}
use Rattle.std.proofs.lemmas.Iterator.{first_from_Range}
use Rattle.program.specs.declared.flaw.Flaw.TheVariants.{Depth}
use Rattle.program.specs.Table.{table}
use Rattle.program.specs.Flaws.{fine_depth}
use Rattle.program.proofs.Firsts.{first_number}
use Rattle.program.proofs.tables.Tables.depth_flaw.Goals as goal

pub returns : goal.returns
returns c =
    let t = table c.args.self.now in
    first_number (fine_depth t) Depth _ _ (length t.nodes) c.find.result _ (search rules)
    (first_from_Range _ _ _ c.find.result (λ k. fine_depth t k ≡ false) (λ k. fine_depth t k ≡ true) c.find.ensures.ran (λ x q k. search (rules, tests)) (λ x q k. search (rules, tests)))
    (λ i y k. search (rules, tests)) c.map.ensures.cases
