use Rattle.whips_drain_laws.proofs.Falls.{drains}
use Rattle.whips_drain_laws.proofs.drain_ends.Goals as goal

pub returns : goal.returns
returns c = drains
