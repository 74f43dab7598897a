-- Laws on stores that are faithful to the values of views.
use Rattle.std.specs.Prelude.{◌≡◌, ℕ, suc, ◌/◌, ◌%◌, ◌<◌, ◌≤◌, ◌↔◌, List, [], ◌∷◌, ◌++◌, length, map, slice_index_or}
use Rattle.whips_lists.specs.Members.{Has}
use Rattle.whips_model.specs.Tuples.{Codes}
use Rattle.whips_model.specs.Relation.{value_of}
use Rattle.whips_changes.specs.Changes.{need}
use Rattle.whips_view.specs.ViewDefs.{View}
use Rattle.whips_setup.specs.Setups.{SetupData}
use Rattle.whips_setup.specs.Refusals.{IsSetup}
use Rattle.whips_store.specs.Versions.{versions_in_use}
use Rattle.whips_store.specs.Stores.{StoreState, ChangeLists, changes_left, view_in}
use Rattle.whips_store.specs.Calls.{AreNet, slots_needed, begun, changed_once, published}
use Rattle.whips_store.specs.First.{store_at_first}
use Rattle.whips_store.specs.Sound.{IsSoundStore}
use Rattle.whips_faithful_laws.specs.Faithful.{IsLiveVersion, AreRowsOf, IsFaithful, new_rows}

-- ---- what being faithful says

-- Rows are exactly the values whose rows they are: the same rows, as many of them.
abbrev pub RowsAreExact : Type 0
RowsAreExact = (columns : List ℕ) (values rows : List Codes) → AreRowsOf columns values rows → ((t : Codes) → Has t rows ↔ Has t values) × (length rows ≡ length values)

-- A store shows the values of one function at most at each live version.
abbrev pub ValuesAreDetermined : Type 0
ValuesAreDetermined = (values others : ℕ → ℕ → List Codes) (s : StoreState) (x v : ℕ) → IsFaithful values s → IsFaithful others s → x < length s.views → IsLiveVersion s.versions s.phase v → values x v ≡ others x v

-- A faithful store needs slots for the values at the versions in use and the rows afterwards.
abbrev pub SlotsNeededAreForValues : Type 0
SlotsNeededAreForValues = (values : ℕ → ℕ → List Codes) (s : StoreState) (x : ℕ) (after : List Codes) → 2 ≤ s.versions → IsFaithful values s → x < length s.views
    → slots_needed s.versions (s.phase / 2) (view_in s x) after ≡ need (view_in s x).columns.key (map (values x) (versions_in_use s.versions (s.phase / 2)) ++ after ∷ [])

-- ---- version 0

-- a view of nothing
abbrev pub blank_view : View
blank_view = record { parts = record { relations = []; homes = []; equal = []; conds = []; out = [] }; bases = [] }

-- the views' values on the initial relations, whatever the version; own
abbrev pub initial_values : SetupData → ℕ → ℕ → List Codes
initial_values s x v = value_of (slice_index_or s.views x blank_view).parts s.initial

-- A store at version 0 of a setup is sound.
abbrev pub FirstStoreIsSound : Type 0
FirstStoreIsSound = (setup : SetupData) → IsSetup setup → IsSoundStore (store_at_first setup)

-- A store at version 0 of a setup is faithful to the views' values on the initial relations.
abbrev pub FirstIsFaithful : Type 0
FirstIsFaithful = (setup : SetupData) → IsSetup setup → IsFaithful (initial_values setup) (store_at_first setup)

-- ---- calls

-- the rows after these changes are the views' values at the next version; own
abbrev pub LeadToNext : (ℕ → ℕ → List Codes) → StoreState → ChangeLists → Type 0
LeadToNext values s cs = (x : ℕ) → x < length s.views → new_rows cs x ≡ values x (suc (s.phase / 2))

-- A store stays faithful when a transaction of net changes begins that leads to the values at the next version.
abbrev pub BeginKeepsFaithful : Type 0
BeginKeepsFaithful = (values : ℕ → ℕ → List Codes) (s : StoreState) (cs : ChangeLists) → IsSoundStore s → s.phase % 2 ≡ 0 → AreNet s.views cs → LeadToNext values s cs → IsFaithful values s → IsFaithful values (begun cs s)

-- A store stays faithful when a change is made.
abbrev pub ChangeKeepsFaithful : Type 0
ChangeKeepsFaithful = (values : ℕ → ℕ → List Codes) (s : StoreState) → IsSoundStore s → IsFaithful values s → IsFaithful values (changed_once s)

-- A store stays faithful when a version is committed.
abbrev pub PublishKeepsFaithful : Type 0
PublishKeepsFaithful = (values : ℕ → ℕ → List Codes) (s : StoreState) → IsSoundStore s → s.phase % 2 ≡ 1 → changes_left s ≡ 0 → IsFaithful values s → IsFaithful values (published s)
