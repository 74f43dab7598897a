use Rattle.whips_trans_laws.proofs.Nets.{others_miss as whole}
use Rattle.whips_trans_laws.proofs.others_miss.Goals as goal

pub returns : goal.returns
returns c = whole
