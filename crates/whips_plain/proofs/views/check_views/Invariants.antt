use Rattle.std.proofs.Common.{◌≡◌, ◌/◌, map, drop}
use Rattle.whips_store.specs.Calls.{first_full}
use Rattle.whips_plain.proofs.views.check_views.Given as goal

abbrev pub invariant-loop-x : goal.invariant-loop-x
invariant-loop-x l = record {
  same : l.views.items ≡ l.initial.views.items;
  fits : first_full l.n (l.phase / 2) 0 l.initial.views.items (map (λ view. (view.0, view.1.items)) l.changes) ≡ first_full l.n (l.phase / 2) l.x (drop l.x l.initial.views.items) (map (λ view. (view.0, view.1.items)) (drop l.x l.changes));
}
