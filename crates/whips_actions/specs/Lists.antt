-- Which actions can be done to a view's rows.
use Rattle.std.specs.Prelude.{◌≡◌, ◌<◌, List, length}
use Rattle.std.specs.List.{AllByRecursion}
use Rattle.whips_view.specs.ViewDefs.{View, row_columns}
use Rattle.whips_actions.specs.declared.action.Action.{Action}
use Rattle.whips_actions.specs.declared.action.Action.TheVariants.{KeyDelete, Put}

-- A key delete names a part of the view, and the rows of a put have the columns of the view's rows.
abbrev pub IsActionOf : View → Action → Type 0
IsActionOf view (KeyDelete part k) = part < length view.bases
IsActionOf view (Put new) = new.columns ≡ row_columns view

abbrev pub AreActionsOf : View → List Action → Type 0
AreActionsOf view actions = AllByRecursion (IsActionOf view) actions
