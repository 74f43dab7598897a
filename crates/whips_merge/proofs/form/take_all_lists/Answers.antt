use Rattle.whips_merge.proofs.Listing.{taken_next, left_next}
use Rattle.whips_merge.proofs.form.take_all_lists.Goals as goal

pub loop-own-preserved : goal.loop-own-preserved
loop-own-preserved c = record {
  taken = taken_next c.args.rows.now c.deref_mut-own-items.result.now c.loop-own.own-items c.loop-own.own-index c.own-item.result c.loop-own-test.true c.loop-own.invariant.left c.own-item.is c.loop-own.taken c.take_lists.new.taken c.loop-own.invariant.taken c.in_ok-take_lists.ensures.taken;
  left = left_next c.args.rows.now c.deref_mut-own-items.result.now c.loop-own.own-items c.loop-own.own-index c.own-item.result c.loop-own-test.true c.loop-own.invariant.left c.own-item.is c.take_lists.new.lists c.in_ok-take_lists.ensures.left;
}
