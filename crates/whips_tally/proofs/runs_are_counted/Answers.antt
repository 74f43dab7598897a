use Rattle.whips_tally.proofs.Ended.{ended_counted}
use Rattle.whips_tally.proofs.runs_are_counted.Goals as goal

pub returns : goal.returns
returns c = ended_counted
