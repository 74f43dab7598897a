use Rattle.std.proofs.Common.{◌≡◌, take}
use Rattle.whips_steps.specs.Answers.{unstruck}
use Rattle.whips_view.specs.ViewDefs.{keyed}
use Rattle.whips_open_queries.specs.Deletions.{pending_at}
use Rattle.whips_strobe.proofs.strike.unstruck.Given as goal

abbrev pub invariant-loop-place : goal.invariant-loop-place
invariant-loop-place l = l.left ≡ unstruck (keyed l.view) (pending_at l.queries l.i) (take l.place l.partials)
