use Rattle.whips_slot_laws.proofs.Calls.{first_carried}
use Rattle.whips_slot_laws.proofs.first_is_carried.Goals as goal

pub returns : goal.returns
returns c = first_carried
