use Rattle.std.proofs.Common.{◌≡◌, take, map}
use Rattle.whips_strobe.proofs.routed.route.Given as goal

abbrev pub invariant-loop-step : goal.invariant-loop-step
invariant-loop-step l = l.sources.items ≡ map (λ s. s.source) (take l.step-index l.step-items)
