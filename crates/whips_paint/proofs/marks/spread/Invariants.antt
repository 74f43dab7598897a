use Rattle.std.proofs.Common.{◌≡◌, length}
use Rattle.whips_paint.proofs.Spreading.{Swept, left_to_sweep}
use Rattle.whips_paint.proofs.marks.spread.Given as goal

abbrev pub invariant-loop-grew : goal.invariant-loop-grew
invariant-loop-grew l = record {
  size : length l.marks ≡ length l.initial.marks;
  swept : Swept l.side l.rows l.initial.marks l.marks l.bounds.items l.grew;
}

abbrev pub decreases-loop-grew : goal.decreases-loop-grew
decreases-loop-grew l = left_to_sweep l.marks l.grew
