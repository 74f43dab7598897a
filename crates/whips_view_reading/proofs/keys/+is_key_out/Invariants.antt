use Rattle.std.proofs.Common.{length}
use Rattle.whips_view_reading.proofs.keys.+is_key_out.Given as goal

abbrev pub decreases-is_key_out : goal.decreases-is_key_out
decreases-is_key_out l = length l.key.now
