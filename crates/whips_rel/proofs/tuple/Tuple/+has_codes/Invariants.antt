use Rattle.std.proofs.Common.{length}
use Rattle.whips_rel.proofs.tuple.Tuple.+has_codes.Given as goal

abbrev pub decreases-has_codes : goal.decreases-has_codes
decreases-has_codes l = length l.places.now
