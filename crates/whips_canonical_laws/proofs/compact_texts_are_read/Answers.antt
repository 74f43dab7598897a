use Rattle.whips_canonical_laws.proofs.Printed.{text_read}
use Rattle.whips_canonical_laws.proofs.compact_texts_are_read.Goals as goal

pub returns : goal.returns
returns c = text_read
