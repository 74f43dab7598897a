use Rattle.std.proofs.Common.{length, refl}
use Rattle.whips_core.proofs.Places.{written, past, absent}
use Rattle.whips_lists.specs.Lists.{front}
use Rattle.std.specs.Option.{option_and_then}
use Rattle.std.proofs.Common.{ap, sym}
use Rattle.whips_contents.specs.Contents.{LoadedSource}
use Rattle.whips_contents.specs.Events.{without_oldest_message}
use Rattle.whips_core.proofs.queues.pop_at.Goals as goal

pub returns-then-at-sources-clause-left : goal.returns-then-at-sources-clause-left
returns-then-at-sources-clause-left g c = written (length c.args.sources.now) c.args.sources.now c.args.y refl without_oldest_message _ c.pop.new.self c.if-at-sources.true c.pop.ensures.left

pub returns-else-at-sources-clause-message : goal.returns-else-at-sources-clause-message
returns-else-at-sources-clause-message g c = sym (ap (option_and_then (λ (s : LoadedSource). front s.messages)) (absent (length c.args.sources.now) c.args.sources.now c.args.y refl c.if-at-sources.false))

pub returns-else-at-sources-clause-left : goal.returns-else-at-sources-clause-left
returns-else-at-sources-clause-left g c = past (length c.args.sources.now) c.args.sources.now c.args.y refl without_oldest_message c.if-at-sources.false
