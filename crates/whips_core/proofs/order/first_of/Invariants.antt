use Rattle.std.proofs.Common.{◌≡◌, None, take}
use Rattle.std.specs.Prelude.{find}
use Rattle.whips_contents.specs.Events.{is_enabled_loaded}
use Rattle.whips_core.specs.Groups.{events_of}
use Rattle.whips_core.proofs.order.first_of.Given as goal

abbrev pub invariant-loop-group : goal.invariant-loop-group
invariant-loop-group g l = find (is_enabled_loaded l.pipeline) (events_of (take l.group-index l.groups)) ≡ None
