use Rattle.whips_faithful_laws.proofs.First.{first}
use Rattle.whips_faithful_laws.proofs.first_is_faithful.Goals as goal

pub returns : goal.returns
returns c = first
