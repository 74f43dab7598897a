-- Setups as data.
use Rattle.std.specs.Prelude.{ℕ, List, map}
use Rattle.whips_model.specs.Tuples.{Columns}
use Rattle.whips_model.specs.Relation.{Table, value_of}
use Rattle.whips_view.specs.ViewDefs.{View, row_columns}

-- A setup: the number of sources, the source of each relation, the relations with their initial rows, the views and the slots of each, and how many versions stay readable.
pub record SetupData : Type 0 where
  pub sources : ℕ
  pub homes : List ℕ
  pub initial : List Table
  pub views : List View
  pub slots : List ℕ
  pub versions : ℕ

-- The columns of each relation.
abbrev pub columns_of : SetupData → List Columns
columns_of s = map (λ (t : Table). t.columns) s.initial

-- A setup of these parts, of which two versions stay readable.
abbrev pub setup_of : ℕ → List ℕ → List Table → List View → List ℕ → SetupData
setup_of sources homes initial views slots = record { sources = sources; homes = homes; initial = initial; views = views; slots = slots; versions = 2 }

-- The view's rows on these relations.
abbrev pub view_value : List Table → View → Table
view_value db view = record { columns = row_columns view; rows = value_of view.parts db }

abbrev pub view_values : List Table → List View → List Table
view_values db views = map (view_value db) views
