use Rattle.std.proofs.Common.{◌≡◌, filter, slice_get}
use Rattle.whips_lists.specs.Lists.{places_from}
use Rattle.whips_order.specs.Numbering.{is_concerned}
use Rattle.whips_order.proofs.integrator.concerned_by.Given as goal

abbrev pub invariant-loop-x : goal.invariant-loop-x
invariant-loop-x l = l.concerned.items ≡ filter (λ x. is_concerned l.update (slice_get l.setup.views x)) (places_from 0 l.x)
