use Rattle.std.proofs.Common.{◌≡◌}
use Rattle.whips_plain.proofs.Steps.{NoneBefore}
use Rattle.whips_plain.proofs.views.change_first.Given as goal

abbrev pub invariant-loop-x : goal.invariant-loop-x
invariant-loop-x l = record {
  same : l.views.items ≡ l.initial.views.items;
  none : NoneBefore l.x l.initial.views.items;
}
