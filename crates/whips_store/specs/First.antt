-- A store at version 0.
use Rattle.std.specs.Prelude.{ℕ, ◌-◌, List, [], ◌∷◌, ◌++◌, length, map, replicate, Some, None}
use Rattle.whips_model.specs.Tuples.{Codes, Columns}
use Rattle.whips_model.specs.Relation.{Table, value_of}
use Rattle.whips_view.specs.ViewDefs.{View, row_columns}
use Rattle.whips_setup.specs.Setups.{SetupData}
use Rattle.whips_vnl.specs.declared.record.Op.TheVariants.{Added}
use Rattle.whips_vnl.specs.declared.record.Vstep.{Vstep}
use Rattle.whips_store.specs.Stores.{ViewState, StoreState}

-- ---- a view

-- the steps of a row that is there at version 0
abbrev pub first_steps : Codes → List Vstep
first_steps t = record { vn = 0; op = Added; row = Some t } ∷ []

-- the rows of version 0 stand in the first slots in the order of their keys, and the other slots are blank
abbrev pub first_records : List Codes → ℕ → List (List Vstep)
first_records rows spare = map first_steps rows ++ replicate spare []

abbrev pub first_view : Columns → List Codes → ℕ → ViewState
first_view columns rows spare = record { columns = columns; records = first_records rows spare; current = rows; next = rows; left = [] }

-- ---- a store of a setup

-- the view's rows are its value on these relations, and what is left of n slots is blank
abbrev pub view_at_first : List Table → View → ℕ → ViewState
view_at_first db view n = first_view (row_columns view) (value_of view.parts db) (n - length (value_of view.parts db))

abbrev pub views_at_first : List Table → List View → List ℕ → List ViewState
views_at_first db [] slots = []
views_at_first db (view ∷ views) [] = []
views_at_first db (view ∷ views) (n ∷ slots) = view_at_first db view n ∷ views_at_first db views slots

-- the views have their values on the initial relations at version 0, and no transaction was begun; what the rows were isn't told
abbrev pub store_at_first : SetupData → StoreState
store_at_first s = record { versions = s.versions; phase = 0; views = views_at_first s.initial s.views s.slots; past = None }
