use Rattle.whips_canonical_scripts.proofs.Whole.{script_again}
use Rattle.whips_canonical_scripts.proofs.scripts_are_read_again.Goals as goal

pub returns : goal.returns
returns c = script_again
