use Rattle.std.proofs.Common.{◌≡◌, length}
use Rattle.whips_fixtures.proofs.steps.updates.Given as goal

abbrev pub invariant-loop-steps : goal.invariant-loop-steps
invariant-loop-steps l = length l.work.items ≡ l.steps-index
