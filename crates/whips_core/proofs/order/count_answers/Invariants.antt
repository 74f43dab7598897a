use Rattle.std.proofs.Common.{◌≡◌, ◌≤◌, ◌*◌, length, map}
use Rattle.std.specs.Prelude.{filter}
use Rattle.whips_lists.specs.Lists.{places_from}
use Rattle.whips_contents.specs.Events.{is_enabled_loaded}
use Rattle.whips_core.specs.Groups.{events_of, answers_of}
use Rattle.whips_core.proofs.order.count_answers.Given as goal

abbrev pub invariant-loop-y : goal.invariant-loop-y
invariant-loop-y g l = (l.count ≡ length (filter (is_enabled_loaded l.pipeline) (events_of (map (answers_of l.views) (places_from 0 l.y))))) × (l.count ≤ l.y * 4294967295)
