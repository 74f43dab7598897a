use Rattle.std.proofs.Common.{◌≡◌, ◌-◌, length}
use Rattle.whips_merge_bench.proofs.run.cover.Given as goal

abbrev pub invariant-loop-upto : goal.invariant-loop-upto
invariant-loop-upto l = length l.merge.lists ≡ 2

abbrev pub decreases-loop-upto : goal.decreases-loop-upto
decreases-loop-upto l = l.n - l.upto
