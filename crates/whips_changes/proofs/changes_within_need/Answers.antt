use Rattle.whips_changes.proofs.Unions.{within_need}
use Rattle.whips_changes.proofs.changes_within_need.Goals as goal

pub returns : goal.returns
returns c = within_need
