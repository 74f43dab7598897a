use Rattle.whips_closure_laws.proofs.Grown.{closures_least}
use Rattle.whips_closure_laws.proofs.closure_is_least.Goals as goal

pub returns : goal.returns
returns c = closures_least
