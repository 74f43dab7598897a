use Rattle.whips_writer_laws.proofs.Events.{events}
use Rattle.whips_writer_laws.proofs.events_go_with.Goals as goal

pub returns : goal.returns
returns c = events
