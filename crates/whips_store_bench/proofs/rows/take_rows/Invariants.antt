use Rattle.whips_store_bench.specs.Later.{IsLater}
use Rattle.whips_store_bench.proofs.rows.take_rows.Given as goal

abbrev pub invariant-loop-row : goal.invariant-loop-row
invariant-loop-row l = IsLater l.initial.draft l.draft
