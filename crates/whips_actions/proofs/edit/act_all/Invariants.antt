use Rattle.std.proofs.Common.{◌≡◌, take}
use Rattle.whips_view.specs.ViewDefs.{keyed}
use Rattle.whips_actions.specs.Acts.{applied}
use Rattle.whips_actions.proofs.edit.act_all.Given as goal

abbrev pub invariant-loop-action : goal.invariant-loop-action
invariant-loop-action l = l.draft ≡ record l.initial.draft { after = applied (keyed l.view) (take l.action-index l.actions) l.initial.draft.after }
