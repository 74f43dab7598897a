use Rattle.std.proofs.Common.{◌≡◌, None, map}
use Rattle.std.specs.Prelude.{find}
use Rattle.whips_lists.specs.Lists.{places_from}
use Rattle.whips_contents.specs.Events.{is_enabled_loaded}
use Rattle.whips_core.specs.Groups.{event_of}
use Rattle.whips_core.proofs.order.first_in.Given as goal

abbrev pub invariant-loop-i : goal.invariant-loop-i
invariant-loop-i g l = find (is_enabled_loaded l.pipeline) (map (event_of l.group.kind) (places_from 0 l.i)) ≡ None
