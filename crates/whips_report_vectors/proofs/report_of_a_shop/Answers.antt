use Rattle.std.proofs.Common.{refl}
use Rattle.std.specs.Fmt.{digits}
use Rattle.whips_steps.specs.Steps.{asked_sources}
use Rattle.serde_json.proofs.OnLiterals.{serde_json_on_literals}
use Rattle.whips_report_vectors.proofs.report_of_a_shop.Goals as goal

pub returns : goal.returns
unfolding digits serde_json_on_literals asked_sources
returns c = refl
