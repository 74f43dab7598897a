use Rattle.whips_paint.specs.Marks.{IsBounded}
use Rattle.whips_paint.proofs.marks.first_bounds.Given as goal

abbrev pub invariant-loop-place : goal.invariant-loop-place
invariant-loop-place l = IsBounded l.side l.rows l.marks l.bounds.items l.place
