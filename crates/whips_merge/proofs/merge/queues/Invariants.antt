use Rattle.std.proofs.Common.{◌≡◌, [], replicate}
use Rattle.whips_merge.proofs.merge.queues.Given as goal

abbrev pub invariant-loop-view : goal.invariant-loop-view
invariant-loop-view l = l.queues.items ≡ replicate l.view []
