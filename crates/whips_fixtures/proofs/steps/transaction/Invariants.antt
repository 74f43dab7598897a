use Rattle.std.specs.List.{AllByRecursion}
use Rattle.whips_fixtures.specs.Pairs.{IsPair}
use Rattle.whips_fixtures.proofs.steps.transaction.Given as goal

abbrev pub invariant-loop-step : goal.invariant-loop-step
invariant-loop-step l = AllByRecursion IsPair l.items.items
