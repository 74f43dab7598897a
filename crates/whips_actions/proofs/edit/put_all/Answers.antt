use Rattle.std.proofs.Common.{arith}
use Rattle.whips_actions.proofs.Edits.{missing_turn}
use Rattle.whips_actions.proofs.edit.put_all.Goals as goal

pub loop-row-preserved : goal.loop-row-preserved
loop-row-preserved c = missing_turn c.args.draft.now c.loop-row.draft c.put_new.new.self c.args.rows.now c.loop-row.row-index c.row-item.result c.in_ok-copy.field-0 (omega arith) c.row-item.is c.in_ok-copy.ensures c.loop-row.invariant c.in_ok-put_new.ensures.ok
