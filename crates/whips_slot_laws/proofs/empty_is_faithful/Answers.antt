use Rattle.whips_slot_laws.proofs.Histories.{empty}
use Rattle.whips_slot_laws.proofs.empty_is_faithful.Goals as goal

pub returns : goal.returns
returns c = empty
