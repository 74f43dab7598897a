use Rattle.whips_cut_laws.proofs.Orderly.{advance}
use Rattle.whips_cut_laws.proofs.cuts_advance.Goals as goal

pub returns : goal.returns
returns c = advance
