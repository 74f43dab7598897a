use Rattle.std.proofs.Common.{sym}
use Rattle.whips_open_queries.specs.Deletions.{pending_at}
use Rattle.whips_strobe.proofs.Strikes.{wide_tuple, struck_there}
use Rattle.whips_strobe.proofs.strike.is_struck_at.Goals as goal

pub key_of-requires : goal.key_of-requires
key_of-requires c = wide_tuple c.args.view.now.bases c.args.partial.now c.args.part c.base.result.now c.in-Some.tuple.now c.requires.wide c.base.ensures (sym c.in-Some.ensures)

pub returns-in_ok-key-in-Some : goal.returns-in_ok-key-in-Some
returns-in_ok-key-in-Some c = struck_there c.args.view.now.bases (pending_at c.args.queries.now c.args.i) c.args.partial.now c.args.part c.base.result.now c.in-Some.tuple.now c.in_ok-key-in-Some.key c.is_pending.result c.base.ensures (sym c.in-Some.ensures) c.in_ok-key-in-Some.ensures c.is_pending.ensures
