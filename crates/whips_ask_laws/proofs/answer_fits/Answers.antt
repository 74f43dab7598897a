use Rattle.whips_ask_laws.proofs.Askable.{fits}
use Rattle.whips_ask_laws.proofs.Bases.{bases_sound}
use Rattle.whips_ask_laws.proofs.answer_fits.Goals as goal

pub returns : goal.returns
returns c = record { answer = fits; sound = bases_sound }
