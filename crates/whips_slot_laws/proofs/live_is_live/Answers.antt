use Rattle.whips_slot_laws.proofs.Histories.{live_same}
use Rattle.whips_slot_laws.proofs.live_is_live.Goals as goal

pub returns : goal.returns
returns c = live_same
