use Rattle.std.proofs.Common.{length, refl}
use Rattle.whips_core.proofs.Places.{written, past}
use Rattle.whips_contents.specs.Events.{source_after_oldest_ask}
use Rattle.whips_core.proofs.queues.answer_at.Goals as goal

pub returns-in_ok-answer : goal.returns-in_ok-answer
returns-in_ok-answer g c = written (length c.args.sources.now) c.args.sources.now c.args.y refl (source_after_oldest_ask c.args.x) _ c.answer.new.self c.if-at-sources.true c.in_ok-answer.ensures

pub returns-else-at-sources : goal.returns-else-at-sources
returns-else-at-sources g c = past (length c.args.sources.now) c.args.sources.now c.args.y refl (source_after_oldest_ask c.args.x) c.if-at-sources.false
