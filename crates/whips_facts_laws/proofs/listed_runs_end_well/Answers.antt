use Rattle.whips_facts_laws.proofs.Ends.{listed_end}
use Rattle.whips_facts_laws.proofs.listed_runs_end_well.Goals as goal

pub returns : goal.returns
returns c = listed_end
