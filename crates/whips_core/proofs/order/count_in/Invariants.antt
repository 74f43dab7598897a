use Rattle.std.proofs.Common.{◌≡◌, ◌≤◌, length, map}
use Rattle.std.specs.Prelude.{filter}
use Rattle.whips_lists.specs.Lists.{places_from}
use Rattle.whips_contents.specs.Events.{is_enabled_loaded}
use Rattle.whips_core.specs.Groups.{event_of}
use Rattle.whips_core.proofs.order.count_in.Given as goal

abbrev pub invariant-loop-i : goal.invariant-loop-i
invariant-loop-i g l = (l.count ≡ length (filter (is_enabled_loaded l.pipeline) (map (event_of l.group.kind) (places_from 0 l.i)))) × (l.count ≤ l.i)
