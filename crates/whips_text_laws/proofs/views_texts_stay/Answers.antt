use Rattle.whips_text_laws.proofs.Views.{views_texts_stay}
use Rattle.whips_text_laws.proofs.views_texts_stay.Goals as goal

pub returns : goal.returns
returns c = views_texts_stay
