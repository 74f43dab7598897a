use Rattle.whips_canonical_laws.proofs.WholeViews.{view_again}
use Rattle.whips_canonical_laws.proofs.views_are_read.Goals as goal

pub returns : goal.returns
returns c = view_again
