use Rattle.whips_canonical_laws.proofs.Schedules.{picked_read}
use Rattle.whips_canonical_laws.proofs.picked_are_read.Goals as goal

pub returns : goal.returns
returns c = picked_read
