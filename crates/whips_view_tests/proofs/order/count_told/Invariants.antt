use Rattle.std.proofs.Common.{◌≡◌, length}
use Rattle.whips_view_tests.proofs.order.count_told.Given as goal

abbrev pub invariant-loop-message : goal.invariant-loop-message
invariant-loop-message l = length l.integrator.places ≡ l.setup.sources
