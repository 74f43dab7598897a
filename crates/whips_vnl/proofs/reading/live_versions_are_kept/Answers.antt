use Rattle.whips_vnl.proofs.Kept.{live_kept}
use Rattle.whips_vnl.proofs.reading.live_versions_are_kept.Goals as goal

pub returns : goal.returns
returns c = live_kept
