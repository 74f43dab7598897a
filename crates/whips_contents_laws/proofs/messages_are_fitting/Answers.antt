use Rattle.whips_contents_laws.proofs.messages_are_fitting.Goals as goal
use Rattle.whips_contents_laws.proofs.Fitting.{are_fitting}

pub returns : goal.returns
returns c = are_fitting
