use Rattle.whips_writer_laws.proofs.Writers.{change_goes}
use Rattle.whips_writer_laws.proofs.change_goes_with.Goals as goal

pub returns : goal.returns
returns c = change_goes
