use Rattle.bounds.proofs.Running.{run_law}
use Rattle.bounds.proofs.bounded.bounded.Goals as goal

pub returns : goal.returns
returns g c = record {
  machine = c.new.ensures.machine;
  rule = c.new.ensures.layer;
  runs = run_law c.new.result.rule.charge c.new.result.rule.budget (g.M.Machine.meaning c.new.result.below);
}
