use Rattle.whips_trans_laws.proofs.Nets.{net_rows as whole}
use Rattle.whips_trans_laws.proofs.net_rows.Goals as goal

pub returns : goal.returns
returns c = whole
