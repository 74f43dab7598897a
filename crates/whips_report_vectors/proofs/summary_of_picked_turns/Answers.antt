use Rattle.std.proofs.Common.{refl}
use Rattle.std.specs.Fmt.{digits}
use Rattle.whips_steps.specs.Steps.{asked_sources}
use Rattle.whips_report_vectors.proofs.summary_of_picked_turns.Goals as goal

pub returns : goal.returns
unfolding digits asked_sources
returns c = refl
