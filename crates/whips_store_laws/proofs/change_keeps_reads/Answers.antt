use Rattle.whips_store_laws.proofs.Whole.{change_reads}
use Rattle.whips_store_laws.proofs.change_keeps_reads.Goals as goal

pub returns : goal.returns
returns c = change_reads
