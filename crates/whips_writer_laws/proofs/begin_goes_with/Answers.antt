use Rattle.whips_writer_laws.proofs.Writers.{begin_goes}
use Rattle.whips_writer_laws.proofs.begin_goes_with.Goals as goal

pub returns : goal.returns
returns c = begin_goes
