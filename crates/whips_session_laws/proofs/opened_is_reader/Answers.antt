use Rattle.whips_session_laws.proofs.Readers.{opened}
use Rattle.whips_session_laws.proofs.opened_is_reader.Goals as goal

pub returns : goal.returns
returns c = opened
