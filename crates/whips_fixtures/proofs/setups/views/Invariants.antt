use Rattle.std.proofs.Common.{◌≡◌, length}
use Rattle.whips_fixtures.proofs.setups.views.Given as goal

abbrev pub invariant-loop-parts : goal.invariant-loop-parts
invariant-loop-parts l = length l.views.items ≡ l.parts-index
