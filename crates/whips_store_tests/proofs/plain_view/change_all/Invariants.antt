use Rattle.std.proofs.Common.{◌≡◌}
use Rattle.whips_fixtures.specs.Pairs.{pair_columns}
use Rattle.whips_store.specs.Sound.{IsSoundView}
use Rattle.whips_store_tests.proofs.plain_view.change_all.Given as goal

abbrev pub invariant-loop-turn : goal.invariant-loop-turn
invariant-loop-turn l = (l.view.columns ≡ pair_columns) × IsSoundView 2 1 l.view
