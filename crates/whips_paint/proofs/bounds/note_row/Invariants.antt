use Rattle.whips_paint.proofs.Bounding.{Noting}
use Rattle.whips_paint.proofs.bounds.note_row.Given as goal

abbrev pub invariant-loop-view : goal.invariant-loop-view
invariant-loop-view l = Noting l.side l.row l.initial.bounds.items l.bounds.items l.view
