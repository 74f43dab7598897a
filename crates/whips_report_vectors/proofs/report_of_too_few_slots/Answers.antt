use Rattle.std.proofs.Common.{refl}
use Rattle.std.specs.Fmt.{digits}
use Rattle.whips_steps.specs.Steps.{asked_sources}
use Rattle.whips_report_vectors.proofs.report_of_too_few_slots.Goals as goal

pub returns : goal.returns
unfolding digits asked_sources
returns c = refl
