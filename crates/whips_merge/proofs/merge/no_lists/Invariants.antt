use Rattle.std.proofs.Common.{◌≡◌, [], replicate}
use Rattle.whips_merge.proofs.merge.no_lists.Given as goal

abbrev pub invariant-loop-view : goal.invariant-loop-view
invariant-loop-view l = l.lists.items ≡ replicate l.view []
