use Rattle.whips_slot_laws.proofs.Histories.{changes}
use Rattle.whips_slot_laws.proofs.changes_go_on.Goals as goal

pub returns : goal.returns
returns c = changes
