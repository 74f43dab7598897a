use Rattle.std.proofs.Common.{length}
use Rattle.whips_view_reading.proofs.keys.+are_keys_out.Given as goal

abbrev pub decreases-are_keys_out : goal.decreases-are_keys_out
decreases-are_keys_out l = length l.numbers.now
