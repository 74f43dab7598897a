use Rattle.whips_facts_laws.proofs.Premises.{asks_there}
use Rattle.whips_facts_laws.proofs.facts_ask_sources_of_run.Goals as goal

pub returns : goal.returns
returns c = asks_there
