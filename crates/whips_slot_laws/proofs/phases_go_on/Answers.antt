use Rattle.whips_slot_laws.proofs.Histories.{phases}
use Rattle.whips_slot_laws.proofs.phases_go_on.Goals as goal

pub returns : goal.returns
returns c = phases
