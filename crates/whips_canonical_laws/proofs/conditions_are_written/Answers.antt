use Rattle.whips_canonical_laws.proofs.Views.{conditions_written}
use Rattle.whips_canonical_laws.proofs.conditions_are_written.Goals as goal

pub returns : goal.returns
returns c = λ l relations numbers. conditions_written relations numbers l
