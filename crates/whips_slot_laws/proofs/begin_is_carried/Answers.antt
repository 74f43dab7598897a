use Rattle.whips_slot_laws.proofs.Calls.{begin_carried}
use Rattle.whips_slot_laws.proofs.begin_is_carried.Goals as goal

pub returns : goal.returns
returns c = begin_carried
