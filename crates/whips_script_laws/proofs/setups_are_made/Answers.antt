use Rattle.whips_script_laws.proofs.Made.{setup_made}
use Rattle.whips_script_laws.proofs.setups_are_made.Goals as goal

pub returns : goal.returns
returns c = setup_made
