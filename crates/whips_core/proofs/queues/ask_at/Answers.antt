use Rattle.std.proofs.Common.{length, refl}
use Rattle.whips_core.proofs.Places.{written, past}
use Rattle.whips_contents.specs.Events.{with_ask_of}
use Rattle.whips_core.proofs.queues.ask_at.Goals as goal

pub returns-in_ok-ask : goal.returns-in_ok-ask
returns-in_ok-ask g c = written (length c.args.sources.now) c.args.sources.now c.args.y refl (with_ask_of c.args.x c.args.ask) _ c.ask.new.self c.if-at-sources.true c.in_ok-ask.ensures

pub returns-else-at-sources : goal.returns-else-at-sources
returns-else-at-sources g c = past (length c.args.sources.now) c.args.sources.now c.args.y refl (with_ask_of c.args.x c.args.ask) c.if-at-sources.false
