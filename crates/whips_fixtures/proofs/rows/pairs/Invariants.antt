use Rattle.std.proofs.Common.{◌≡◌}
use Rattle.whips_fixtures.specs.Pairs.{pair_columns}
use Rattle.whips_fixtures.proofs.rows.pairs.Given as goal

abbrev pub invariant-loop-row : goal.invariant-loop-row
invariant-loop-row l = l.relation.columns ≡ pair_columns
