use Rattle.whips_paint.proofs.Spreading.{Sweeping}
use Rattle.whips_paint.proofs.marks.sweep.Given as goal

abbrev pub invariant-loop-place : goal.invariant-loop-place
invariant-loop-place l = Sweeping l.side l.rows l.initial.marks l.marks l.initial.bounds.items l.bounds.items l.place l.grew
