use Rattle.whips_text_laws.proofs.Relations.{relation_texts_stay}
use Rattle.whips_source_laws.proofs.Sources.{sources_texts_stay}
use Rattle.whips_source_laws.proofs.source_texts_stay.Goals as goal

pub returns : goal.returns
returns c = sources_texts_stay relation_texts_stay
