use Rattle.std.proofs.Common.{sym}
use Rattle.whips_model.specs.Views.{rows_of}
use Rattle.whips_lists.proofs.Members.{has_same}
use Rattle.whips_choices.proofs.Values.{value_choice, value_row}
use Rattle.whips_choices.proofs.value_has.Goals as goal

pub returns : goal.returns
returns c = λ v tables r. (value_choice v tables r, λ h. has_same _ r (rows_of v tables) (sym h.1.row) (value_row v tables h.0 h.1.choice_of h.1.meets))
