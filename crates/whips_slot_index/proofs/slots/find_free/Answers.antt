use Rattle.whips_store.specs.Versions.{is_free}
use Rattle.whips_slot_index.proofs.Found.{one_more, found, not_found}
use Rattle.whips_slot_index.proofs.slots.find_free.Goals as goal

pub returns-then-is_slot_free : goal.returns-then-is_slot_free
returns-then-is_slot_free c = found (is_free c.args.n c.args.c) c.args.records.now c.loop-i.i c.index-records-i.result c.is_slot_free.result c.loop-i.invariant c.loop-i-test.true c.index-records-i.is c.is_slot_free.ensures c.if-is_slot_free.true

pub loop-i-preserved : goal.loop-i-preserved
loop-i-preserved c = one_more (is_free c.args.n c.args.c) c.args.records.now c.loop-i.i c.index-records-i.result c.is_slot_free.result c.loop-i.invariant c.loop-i-test.true c.index-records-i.is c.is_slot_free.ensures c.if-is_slot_free.false

pub returns : goal.returns
returns c = not_found (is_free c.args.n c.args.c) c.args.records.now c.loop-i.i c.loop-i.invariant c.loop-i-test.false
