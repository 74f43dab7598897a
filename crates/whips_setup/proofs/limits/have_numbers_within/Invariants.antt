use Rattle.std.proofs.Common.{◌≡◌, drop}
use Rattle.std.specs.List.{list_all}
use Rattle.whips_setup.specs.Limits.{has_numbers_within}
use Rattle.whips_setup.proofs.limits.have_numbers_within.Given as goal

abbrev pub invariant-loop-row : goal.invariant-loop-row
invariant-loop-row l = list_all (has_numbers_within l.kinds) (drop l.row-index l.rows) ≡ list_all (has_numbers_within l.kinds) l.rows
