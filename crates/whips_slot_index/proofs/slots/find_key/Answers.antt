use Rattle.whips_store.specs.Versions.{versions_in_use, shows_key}
use Rattle.whips_net.specs.Made.{change_key}
use Rattle.whips_slot_index.proofs.Found.{one_more, found, not_found}
use Rattle.whips_slot_index.proofs.slots.find_key.Goals as goal

pub returns-then-shows_change : goal.returns-then-shows_change
returns-then-shows_change c = found (shows_key c.args.schema.now.key c.args.n (versions_in_use c.args.n c.args.c) (change_key c.args.schema.now.key c.args.change.now)) c.args.records.now c.loop-i.i c.index-records-i.result c.shows_change.result c.loop-i.invariant c.loop-i-test.true c.index-records-i.is c.shows_change.ensures c.if-shows_change.true

pub loop-i-preserved : goal.loop-i-preserved
loop-i-preserved c = one_more (shows_key c.args.schema.now.key c.args.n (versions_in_use c.args.n c.args.c) (change_key c.args.schema.now.key c.args.change.now)) c.args.records.now c.loop-i.i c.index-records-i.result c.shows_change.result c.loop-i.invariant c.loop-i-test.true c.index-records-i.is c.shows_change.ensures c.if-shows_change.false

pub returns : goal.returns
returns c = not_found (shows_key c.args.schema.now.key c.args.n (versions_in_use c.args.n c.args.c) (change_key c.args.schema.now.key c.args.change.now)) c.args.records.now c.loop-i.i c.loop-i.invariant c.loop-i-test.false
