-- A refused settle leaves the explorer as it was, and hands the same ticket back.
use Rattle.std.proofs.Common.{◌≡◌, Some, rules}
use Rattle.explorer.specs.Told.{state}
use Rattle.explorer_tests.proofs.Holding.{settle_ends}
use Rattle.explorer_tests.proofs.asker.settle_by.Goals as goal

pub returns : goal.returns
returns g c =
    let t = c.in_ok-ticket.ticket in
    let o : Some t ≡ c.args.place.now = search rules in
    let k = c.settle.ensures in
    settle_ends (state c.args.explorer.now) (state c.settle.new.self) t (g.M.Machine.meaning c.args.machine.now) (g.S.Store.meaning c.args.store.now) _ _ o c.given_back.result c.settle.result k.answer k.after k.back c.given_back.ensures
