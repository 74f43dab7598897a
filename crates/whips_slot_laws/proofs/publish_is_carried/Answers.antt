use Rattle.whips_slot_laws.proofs.Calls.{publish_carried}
use Rattle.whips_slot_laws.proofs.publish_is_carried.Goals as goal

pub returns : goal.returns
returns c = publish_carried
