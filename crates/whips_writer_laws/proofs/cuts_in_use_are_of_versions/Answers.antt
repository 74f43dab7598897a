use Rattle.whips_writer_laws.proofs.Needs.{cuts_are}
use Rattle.whips_writer_laws.proofs.cuts_in_use_are_of_versions.Goals as goal

pub returns : goal.returns
returns c = cuts_are
