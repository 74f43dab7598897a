use Rattle.std.proofs.Common.{◌≡◌, take}
use Rattle.whips_core.proofs.queues.copy_of.Given as goal

abbrev pub invariant-loop-update : goal.invariant-loop-update
invariant-loop-update l = l.items.items ≡ take l.update-index l.update-items
