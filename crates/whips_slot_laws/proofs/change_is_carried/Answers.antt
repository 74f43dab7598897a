use Rattle.whips_slot_laws.proofs.Calls.{change_carried}
use Rattle.whips_slot_laws.proofs.change_is_carried.Goals as goal

pub returns : goal.returns
returns c = change_carried
