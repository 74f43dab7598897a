use Rattle.std.proofs.Common.{◌≡◌, map}
use Rattle.whips_lists.specs.Lists.{places_from}
use Rattle.whips_steps.specs.Steps.{asked_sources}
use Rattle.whips_view.specs.ViewDefs.{keyed}
use Rattle.whips_strobe.proofs.routed.all_routes.Given as goal

abbrev pub invariant-loop-origin : goal.invariant-loop-origin
invariant-loop-origin l = l.routes.items ≡ map (asked_sources (keyed l.view)) (places_from 0 l.origin)
