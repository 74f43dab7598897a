use Rattle.whips_tally.proofs.Summaries.{summary_counted}
use Rattle.whips_tally.proofs.summaries_are_counted.Goals as goal

pub returns : goal.returns
returns c = summary_counted
