use Rattle.whips_session_laws.proofs.Readers.{stays}
use Rattle.whips_session_laws.proofs.reader_stays.Goals as goal

pub returns : goal.returns
returns c = stays
