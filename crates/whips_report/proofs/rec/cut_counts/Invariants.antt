use Rattle.std.proofs.Common.{◌≡◌, take}
use Rattle.whips_report.proofs.rec.cut_counts.Given as goal

abbrev pub invariant-loop-y : goal.invariant-loop-y
invariant-loop-y l = l.counts.items ≡ take l.y l.cut
