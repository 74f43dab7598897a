use Rattle.whips_canonical_laws.proofs.Schedules.{number_written}
use Rattle.whips_canonical_laws.proofs.numbers_are_written.Goals as goal

pub returns : goal.returns
returns c = number_written
