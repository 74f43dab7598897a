use Rattle.whips_headline_laws.proofs.Picked.{picked_listed}
use Rattle.whips_headline_laws.proofs.picked_runs_are_listed.Goals as goal

pub returns : goal.returns
returns c = picked_listed
