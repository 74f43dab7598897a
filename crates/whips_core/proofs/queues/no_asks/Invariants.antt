use Rattle.std.proofs.Common.{◌≡◌, [], replicate}
use Rattle.whips_core.proofs.queues.no_asks.Given as goal

abbrev pub invariant-loop-view : goal.invariant-loop-view
invariant-loop-view l = l.asks.items ≡ replicate l.view []
