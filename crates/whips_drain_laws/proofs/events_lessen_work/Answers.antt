use Rattle.whips_drain_laws.proofs.Falls.{falls}
use Rattle.whips_drain_laws.proofs.events_lessen_work.Goals as goal

pub returns : goal.returns
returns c = falls
