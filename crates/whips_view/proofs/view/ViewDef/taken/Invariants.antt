use Rattle.std.proofs.Common.{◌≡◌}
use Rattle.whips_states.specs.Net.{by_part, taken_at}
use Rattle.whips_view.specs.ViewDefs.{keyed}
use Rattle.whips_view.proofs.view.ViewDef.taken.Given as goal

abbrev pub invariant-loop-part : goal.invariant-loop-part
invariant-loop-part l = l.keys.items ≡ by_part l.part (taken_at (keyed l.self) l.t)
