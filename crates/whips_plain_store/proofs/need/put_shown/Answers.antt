use Rattle.std.proofs.Common.{take}
use Rattle.whips_store.specs.Versions.{rows_shown_at}
use Rattle.whips_slot_index.specs.Slots.{all_steps}
use Rattle.whips_plain_store.specs.Plain.{put_all}
use Rattle.whips_plain_store.proofs.Puts.{slot_wide, slot_put}
use Rattle.whips_plain_store.proofs.need.put_shown.Goals as goal

pub put_slot-requires : goal.put_slot-requires
put_slot-requires c = slot_wide c.args.rows.now c.loop-i.rows c.args.records.now (put_all c.args.rows.now.columns.key c.args.rows.now.rows (rows_shown_at c.args.n c.args.v (take c.loop-i.i (all_steps c.args.records.now)))) c.loop-i.i c.index-records-i.result c.loop-i.invariant c.requires c.loop-i-test.true c.index-records-i.is

pub loop-i-preserved : goal.loop-i-preserved
loop-i-preserved c = slot_put c.args.rows.now c.loop-i.rows c.put_slot.new.rows c.args.records.now c.loop-i.i c.args.n c.args.v c.index-records-i.result c.loop-i-test.true c.index-records-i.is c.loop-i.invariant c.in_ok-put_slot.ensures
