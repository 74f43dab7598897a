use Rattle.whips_text_laws.proofs.Views.{view_texts_stay}
use Rattle.whips_text_laws.proofs.view_texts_stay.Goals as goal

pub returns : goal.returns
returns c = view_texts_stay
