use Rattle.std.proofs.Common.{◌≡◌, length}
use Rattle.whips_merge_bench.proofs.run.announce.Given as goal

abbrev pub invariant-loop-i : goal.invariant-loop-i
invariant-loop-i l = record { views : length l.merge.lists ≡ 2; last : l.merge.merge.table.last_announced ≡ l.i }
