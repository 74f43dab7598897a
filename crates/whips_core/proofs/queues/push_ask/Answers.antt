use Rattle.std.proofs.Common.{length, refl}
use Rattle.whips_core.proofs.Places.{written, past}
use Rattle.std.proofs.Common.{◌++◌, ◌∷◌, []}
use Rattle.whips_core.proofs.queues.push_ask.Goals as goal

pub returns-in_ok-push : goal.returns-in_ok-push
returns-in_ok-push c = written (length c.args.asks.now) c.args.asks.now c.args.x refl (λ q. q ++ c.args.ask ∷ []) _ c.push.new.self c.if-at-asks.true c.in_ok-push.ensures

pub returns-else-at-asks : goal.returns-else-at-asks
returns-else-at-asks c = past (length c.args.asks.now) c.args.asks.now c.args.x refl (λ q. q ++ c.args.ask ∷ []) c.if-at-asks.false
