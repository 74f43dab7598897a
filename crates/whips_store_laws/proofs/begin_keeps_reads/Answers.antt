use Rattle.whips_store_laws.proofs.Whole.{begin_reads}
use Rattle.whips_store_laws.proofs.begin_keeps_reads.Goals as goal

pub returns : goal.returns
returns c = begin_reads
