use Rattle.whips_stage_laws.proofs.setups_fit.Goals as goal
use Rattle.whips_stage_laws.proofs.Setups.{setup_fits}

pub returns : goal.returns
returns c = setup_fits
