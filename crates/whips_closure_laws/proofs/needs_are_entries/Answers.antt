use Rattle.whips_closure_laws.proofs.Grown.{draws_entries}
use Rattle.whips_closure_laws.proofs.needs_are_entries.Goals as goal

pub returns : goal.returns
returns c = draws_entries
