use Rattle.std.proofs.Common.{◌≡◌, length, map}
use Rattle.whips_store.specs.Calls.{views_with}
use Rattle.whips_plain.proofs.views.put_changes.Given as goal

abbrev pub invariant-loop-change : goal.invariant-loop-change
invariant-loop-change l = record {
  at : l.x ≡ length l.yielded;
  views : l.views.items ≡ views_with l.initial.views.items (map (λ view. (view.0, view.1.items)) l.yielded);
}
