use Rattle.whips_slot_laws.proofs.Calls.{rows_fit}
use Rattle.whips_slot_laws.proofs.first_rows_fit.Goals as goal

pub returns : goal.returns
returns c = rows_fit
