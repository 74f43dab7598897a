use Rattle.whips_settled_laws.proofs.Complete.{complete}
use Rattle.whips_settled_laws.proofs.last_cut_is_complete.Goals as goal

pub returns : goal.returns
returns c = complete
