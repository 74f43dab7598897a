use Rattle.std.proofs.Common.{length}
use Rattle.whips_store_tests.proofs.rows.+are_chunks_within.Given as goal

abbrev pub decreases-are_chunks_within : goal.decreases-are_chunks_within
decreases-are_chunks_within l = length l.chunks.now
