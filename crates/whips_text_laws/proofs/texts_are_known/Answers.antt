use Rattle.whips_text_laws.proofs.Known.{texts_known}
use Rattle.whips_text_laws.proofs.texts_are_known.Goals as goal

pub returns : goal.returns
returns c = texts_known
