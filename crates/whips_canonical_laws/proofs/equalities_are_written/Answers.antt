use Rattle.whips_canonical_laws.proofs.Views.{equalities_written}
use Rattle.whips_canonical_laws.proofs.equalities_are_written.Goals as goal

pub returns : goal.returns
returns c = equalities_written
