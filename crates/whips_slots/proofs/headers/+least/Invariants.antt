use Rattle.std.proofs.Common.{length}
use Rattle.whips_slots.proofs.headers.+least.Given as goal

abbrev pub decreases-least : goal.decreases-least
decreases-least l = length l.headers.now
