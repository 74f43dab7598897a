use Rattle.std.proofs.Common.{◌≡◌, take}
use Rattle.whips_choices.specs.Edits.{put_missing}
use Rattle.whips_actions.proofs.edit.put_all.Given as goal

abbrev pub invariant-loop-row : goal.invariant-loop-row
invariant-loop-row l = l.draft ≡ record l.initial.draft { after = put_missing l.initial.draft.columns.key (take l.row-index l.rows) l.initial.draft.after }
