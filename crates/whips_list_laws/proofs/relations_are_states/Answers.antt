use Rattle.whips_list_laws.proofs.relations_are_states.Goals as goal
use Rattle.whips_list_laws.proofs.States.{relations_are_states as relations, sources_stand}

pub returns : goal.returns
returns c = record { numbered = relations; sources = sources_stand }
