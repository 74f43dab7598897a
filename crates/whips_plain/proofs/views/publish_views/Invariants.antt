use Rattle.std.proofs.Common.{◌≡◌, ◌++◌, take, drop, map}
use Rattle.whips_store.specs.Stores.{ViewState}
use Rattle.whips_plain.proofs.views.publish_views.Given as goal

abbrev pub invariant-loop-view : goal.invariant-loop-view
invariant-loop-view l = l.view-items ≡ map (λ (v : ViewState). record v { current = v.next }) (take l.view-index l.initial.view-items) ++ drop l.view-index l.initial.view-items
