use Rattle.std.proofs.Common.{length, refl}
use Rattle.whips_core.proofs.Places.{written, past, absent}
use Rattle.whips_lists.specs.Lists.{front}
use Rattle.std.specs.Option.{option_and_then}
use Rattle.std.proofs.Common.{ap, sym}
use Rattle.whips_contents.specs.Contents.{LoadedManager}
use Rattle.whips_contents.specs.Events.{without_oldest_list}
use Rattle.whips_core.proofs.queues.pop_list_at.Goals as goal

pub returns-then-at-managers-clause-left : goal.returns-then-at-managers-clause-left
returns-then-at-managers-clause-left c = written (length c.args.managers.now) c.args.managers.now c.args.x refl without_oldest_list _ c.pop_list.new.self c.if-at-managers.true c.pop_list.ensures.left

pub returns-else-at-managers-clause-list : goal.returns-else-at-managers-clause-list
returns-else-at-managers-clause-list c = sym (ap (option_and_then (λ (s : LoadedManager). front s.lists)) (absent (length c.args.managers.now) c.args.managers.now c.args.x refl c.if-at-managers.false))

pub returns-else-at-managers-clause-left : goal.returns-else-at-managers-clause-left
returns-else-at-managers-clause-left c = past (length c.args.managers.now) c.args.managers.now c.args.x refl without_oldest_list c.if-at-managers.false
