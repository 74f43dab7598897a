use Rattle.whips_store_laws.proofs.Whole.{publish_reads}
use Rattle.whips_store_laws.proofs.publish_keeps_reads.Goals as goal

pub returns : goal.returns
returns c = publish_reads
