use Rattle.whips_trans_laws.proofs.Alone.{meets_is as whole}
use Rattle.whips_trans_laws.proofs.meets_alone.Goals as goal

pub returns : goal.returns
returns c = whole
