use Rattle.whips_session_laws.proofs.Readers.{scans}
use Rattle.whips_session_laws.proofs.scan_is_reader.Goals as goal

pub returns : goal.returns
returns c = scans
