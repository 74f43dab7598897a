use Rattle.std.proofs.Common.{length, refl}
use Rattle.whips_core.proofs.Places.{written, past, absent}
use Rattle.whips_lists.specs.Lists.{front, without_front}
use Rattle.std.specs.Option.{option_and_then}
use Rattle.std.proofs.Common.{ap, sym}
use Rattle.whips_core.proofs.queues.pop_ask.Goals as goal

pub returns-then-at-asks-clause-left : goal.returns-then-at-asks-clause-left
returns-then-at-asks-clause-left c = written (length c.args.asks.now) c.args.asks.now c.args.x refl without_front _ c.pop.new.self c.if-at-asks.true c.pop.ensures.left

pub returns-else-at-asks-clause-ask : goal.returns-else-at-asks-clause-ask
returns-else-at-asks-clause-ask c = sym (ap (option_and_then front) (absent (length c.args.asks.now) c.args.asks.now c.args.x refl c.if-at-asks.false))

pub returns-else-at-asks-clause-left : goal.returns-else-at-asks-clause-left
returns-else-at-asks-clause-left c = past (length c.args.asks.now) c.args.asks.now c.args.x refl without_front c.if-at-asks.false
