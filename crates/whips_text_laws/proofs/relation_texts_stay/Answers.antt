use Rattle.whips_text_laws.proofs.Relations.{relation_texts_stay}
use Rattle.whips_text_laws.proofs.relation_texts_stay.Goals as goal

pub returns : goal.returns
returns c = relation_texts_stay
