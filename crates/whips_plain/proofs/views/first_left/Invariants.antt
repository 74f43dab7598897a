use Rattle.whips_plain.proofs.Steps.{NoneBefore}
use Rattle.whips_plain.proofs.views.first_left.Given as goal

abbrev pub invariant-loop-x : goal.invariant-loop-x
invariant-loop-x l = NoneBefore l.x l.views
