use Rattle.std.proofs.Common.{◌<◌, length, arith, ap}
use Rattle.whips_view.specs.ViewDefs.{keyed}
use Rattle.whips_managers.specs.Managers.{ManagerState}
use Rattle.whips_strobe.proofs.Replies.{asks_next}
use Rattle.whips_strobe.proofs.state.State.asks_from.Goals as goal

pub loop-i-preserved : goal.loop-i-preserved
loop-i-preserved c =
    let size = ap (λ (m : ManagerState). length m.queries) c.self.view_is in
    let lt : c.loop-i.i < length c.args.self.now.queries = omega (arith, size) in
    asks_next c.args.number (keyed c.args.view.now) c.args.self.now.queries c.loop-i.i c.loop-i.asks.items c.push.new.self.items _ c.in_ok-ask.field-0 lt c.in_ok-ask.ensures c.in_ok-push.ensures.items c.loop-i.invariant
