use Rattle.whips_writer_laws.proofs.Writers.{publish_goes}
use Rattle.whips_writer_laws.proofs.publish_goes_with.Goals as goal

pub returns : goal.returns
returns c = publish_goes
