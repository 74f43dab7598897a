use Rattle.std.proofs.Common.{◌≡◌, false}
use Rattle.whips_view.specs.ViewDefs.{keyed}
use Rattle.whips_open_queries.specs.Deletions.{pending_at}
use Rattle.whips_strobe.specs.Strikes.{is_struck_below}
use Rattle.whips_strobe.proofs.strike.is_struck.Given as goal

abbrev pub invariant-loop-part : goal.invariant-loop-part
invariant-loop-part l = is_struck_below (keyed l.view).keys (pending_at l.queries l.i) l.partial l.part ≡ false
