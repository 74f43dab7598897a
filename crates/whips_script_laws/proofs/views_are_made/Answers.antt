use Rattle.whips_script_laws.proofs.Viewed.{made}
use Rattle.whips_script_laws.proofs.views_are_made.Goals as goal

pub returns : goal.returns
returns c = made
