-- What is in a view's value.
use Rattle.std.specs.Prelude.{◌↔◌, List}
use Rattle.whips_model.specs.Tuples.{Codes}
use Rattle.whips_model.specs.Views.{ViewData, Choice, rows_of}
use Rattle.whips_lists.specs.Members.{Has}
use Rattle.whips_choices.specs.KeyedViews.{IsRowOf}

-- a row is in the value exactly where a choice that meets the view gives it
abbrev pub ValueHas : Type 0
ValueHas = (v : ViewData) (tables : List (List Codes)) (r : Codes) → Has r (rows_of v tables) ↔ ((c : Choice) × IsRowOf v tables r c)
