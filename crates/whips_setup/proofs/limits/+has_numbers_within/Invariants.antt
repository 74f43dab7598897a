use Rattle.std.proofs.Common.{length}
use Rattle.whips_setup.proofs.limits.+has_numbers_within.Given as goal

abbrev pub decreases-has_numbers_within : goal.decreases-has_numbers_within
decreases-has_numbers_within l = length l.kinds.now
