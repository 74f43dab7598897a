use Rattle.std.proofs.Common.{◌≡◌, take}
use Rattle.whips_setup.proofs.setup.Setup.copy.Given as goal

abbrev pub invariant-loop-view : goal.invariant-loop-view
invariant-loop-view l = l.views.items ≡ take l.view-index l.view-items
