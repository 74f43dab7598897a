-- What actions make of a view's rows.
use Rattle.std.specs.Prelude.{List, [], fold, slice_index_or}
use Rattle.whips_model.specs.Tuples.{Codes, without_key}
use Rattle.whips_choices.specs.KeyedViews.{KeyedView}
use Rattle.whips_choices.specs.Edits.{put_missing}
use Rattle.whips_actions.specs.declared.action.Action.{Action}
use Rattle.whips_actions.specs.declared.action.Action.TheVariants.{KeyDelete, Put}

-- The view's rows after an action: a key delete removes each row that has that key of that part, and a put adds the rows whose key isn't there.
abbrev pub acted : KeyedView → List Codes → Action → List Codes
acted v rows (KeyDelete part k) = without_key (slice_index_or v.places part []) k rows
acted v rows (Put new) = put_missing v.columns new.rows rows

-- The view's rows after the actions, in order.
abbrev pub applied : KeyedView → List Action → List Codes → List Codes
applied v actions rows = fold (acted v) rows actions
