use Rattle.std.proofs.Common.{sym}
use Rattle.whips_lists.proofs.Lists.{take_next}
use Rattle.whips_report.proofs.rec.cut_counts.Goals as goal

pub loop-y-preserved : goal.loop-y-preserved
loop-y-preserved c = rw (c.in_ok-push.ensures.items, c.loop-y.invariant) (sym (take_next _ _ _ c.count.ensures))
