use Rattle.whips_contents_laws.proofs.contents_fit.Goals as goal
use Rattle.whips_contents_laws.proofs.Kept.{contents_fit as fits}

pub returns : goal.returns
returns c = fits
