use Rattle.whips_canonical_laws.proofs.Views.{out_written}
use Rattle.whips_canonical_laws.proofs.out_is_written.Goals as goal

pub returns : goal.returns
returns c = out_written
