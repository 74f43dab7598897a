-- A script as data, and the value of a view at a cut.
use Rattle.std.specs.Prelude.{ℕ, ◌-◌, List, [], slice_get, slice_index, Some}
use Rattle.std.specs.Option.{option_and_then, unwrap_or}
use Rattle.whips_lists.specs.Lists.{map_with_place}
use Rattle.whips_model.specs.Tuples.{Codes}
use Rattle.whips_model.specs.Relation.{value_of}
use Rattle.whips_choices.specs.KeyedViews.{KeyedView}
use Rattle.whips_choices.specs.Places.{keyed_view}
use Rattle.whips_states.specs.States.{Updates, state_at}
use Rattle.whips_view.specs.ViewDefs.{View, keyed}
use Rattle.whips_setup.specs.Setups.{SetupData}

-- what a run depends on: the setup, the transactions of each source in order, and the number of reader sessions; own
pub record Script : Type 0 where
  pub setup : SetupData
  pub work : List (List Updates)
  pub sessions : ℕ

-- a view, and how many rows its store can hold
pub record SlottedView : Type 0 where
  pub view : KeyedView
  pub slots : ℕ

abbrev pub slotted : List ℕ → ℕ → View → SlottedView
slotted slots x view = record { view = keyed view; slots = slice_index slots x }

-- the views of a script, each with its slots
abbrev pub slotted_views : Script → List SlottedView
slotted_views s = map_with_place (slotted s.setup.slots) 0 s.setup.views

abbrev pub Bytes : Type 0
Bytes = List ℕ

-- the names of sources, views and sessions by place, and the texts by code
pub record Labels : Type 0 where
  pub sources : List Bytes
  pub views : List Bytes
  pub sessions : List Bytes
  pub texts : List Bytes

-- a view's value on the state of the relations at a cut; own
abbrev pub value_at : Script → KeyedView → List ℕ → List Codes
value_at s view cut = value_of view.base (state_at s.setup.initial s.work cut)

-- ---- what a script has at a place, or nothing of it

abbrev pub no_view : KeyedView
no_view = keyed_view (record { relations = []; homes = []; equal = []; conds = []; out = [] }) []

abbrev pub view_at : Script → ℕ → KeyedView
view_at s x = unwrap_or (option_and_then (λ v. Some v.view) (slice_get (slotted_views s) x)) no_view

-- the transaction of source y at a place from 1
abbrev pub transaction_at : Script → ℕ → ℕ → Updates
transaction_at s y k = unwrap_or (option_and_then (λ ts. slice_get ts (k - 1)) (slice_get s.work y)) []
