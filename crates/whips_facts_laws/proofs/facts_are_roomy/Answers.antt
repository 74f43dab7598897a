use Rattle.whips_facts_laws.proofs.Premises.{roomy}
use Rattle.whips_facts_laws.proofs.facts_are_roomy.Goals as goal

pub returns : goal.returns
returns c = roomy
