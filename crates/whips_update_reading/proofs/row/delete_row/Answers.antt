use Rattle.whips_update_reading.proofs.Edits.{deleted}
use Rattle.whips_update_reading.proofs.row.delete_row.Goals as goal

pub returns-in-Ok-clause-made : goal.returns-in-Ok-clause-made
returns-in-Ok-clause-made c = deleted c.args.relation.now c.delete.new.self c.in_ok-key.key c.in-Ok.row c.in-Ok.ensures.row c.in-Ok.ensures.ok
