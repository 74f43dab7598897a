use Rattle.whips_gen.proofs.Full.{never_full}
use Rattle.whips_gen.proofs.made_runs_are_never_full.Goals as goal

pub returns : goal.returns
returns c = never_full
