use Rattle.std.proofs.Common.{◌≡◌, map, take}
use Rattle.whips_model.specs.Tuples.{at_columns}
use Rattle.whips_states.specs.Laws.{without_keys}
use Rattle.whips_actions.proofs.edit.delete_all.Given as goal

abbrev pub invariant-loop-row : goal.invariant-loop-row
invariant-loop-row l = l.draft ≡ record l.initial.draft { after = without_keys l.initial.draft.columns.key (map (at_columns l.initial.draft.columns.key) (take l.row-index l.rows)) l.initial.draft.after }
