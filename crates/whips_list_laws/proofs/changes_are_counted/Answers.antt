use Rattle.whips_list_laws.proofs.changes_are_counted.Goals as goal
use Rattle.whips_list_laws.proofs.Counted.{changes_are_counted as counted}

pub returns : goal.returns
returns c = counted
