use Rattle.std.proofs.Common.{◌≡◌, take}
use Rattle.whips_view.proofs.view.ViewDef.copy.Given as goal

abbrev pub invariant-loop-base : goal.invariant-loop-base
invariant-loop-base l = l.bases.items ≡ take l.base-index l.base-items
