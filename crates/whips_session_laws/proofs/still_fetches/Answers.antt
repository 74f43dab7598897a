use Rattle.whips_session_laws.proofs.Readers.{fetched}
use Rattle.whips_session_laws.proofs.still_fetches.Goals as goal

pub returns : goal.returns
returns g c = fetched g.S.Store.state
