use Rattle.whips_facts_laws.proofs.Ends.{picked_end}
use Rattle.whips_facts_laws.proofs.picked_runs_end_well.Goals as goal

pub returns : goal.returns
returns c = picked_end
