use Rattle.whips_canonical_laws.proofs.Relations.{relation_again}
use Rattle.whips_canonical_laws.proofs.relations_are_read.Goals as goal

pub returns : goal.returns
returns c = relation_again
