use Rattle.whips_store_laws.proofs.Whole.{live_shown}
use Rattle.whips_store_laws.proofs.live_versions_are_shown.Goals as goal

pub returns : goal.returns
returns c = live_shown
