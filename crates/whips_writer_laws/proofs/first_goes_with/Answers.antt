use Rattle.whips_writer_laws.proofs.Writers.{first_goes}
use Rattle.whips_writer_laws.proofs.first_goes_with.Goals as goal

pub returns : goal.returns
returns c = first_goes
