use Rattle.whips_writer_laws.proofs.Needs.{full}
use Rattle.whips_writer_laws.proofs.full_is_shortage.Goals as goal

pub returns : goal.returns
returns c = full
