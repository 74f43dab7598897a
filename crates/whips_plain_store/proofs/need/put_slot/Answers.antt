use Rattle.std.proofs.Common.{length}
use Rattle.whips_vnl.specs.Records.{steps_or_none}
use Rattle.whips_plain_store.proofs.Puts.{row_wide}
use Rattle.whips_plain_store.proofs.need.put_slot.Goals as goal

pub put-requires : goal.put-requires
put-requires c = row_wide (length c.args.rows.now.columns.kinds) c.args.n c.args.v (steps_or_none c.args.slot.now) c.in-Some.row.now c.requires c.in-Some.ensures
