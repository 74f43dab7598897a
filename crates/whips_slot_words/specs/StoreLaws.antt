-- The words of a board as a store of versioned rows.
use Rattle.std.specs.Prelude.{◌≡◌, ℕ, suc, ◌-◌, ◌/◌, ◌<◌, ◌≤◌, List, [], ◌∷◌, length, take, set, slice_index_or, Some}
use Rattle.std.specs.List.{filter_map, range_with_len}
use Rattle.whips_model.specs.Tuples.{Codes}
use Rattle.whips_model.specs.Relation.{Table, value_of}
use Rattle.whips_view.specs.ViewDefs.{View, row_columns}
use Rattle.whips_setup.specs.Setups.{SetupData}
use Rattle.whips_rel.specs.declared.update.Change.{Change}
use Rattle.whips_net.specs.Made.{change_key}
use Rattle.whips_vnl.specs.Records.{visible, steps_after}
use Rattle.whips_board.specs.History.{words_after, IsLawful}
use Rattle.whips_store.specs.Versions.{rows_shown_at}
use Rattle.whips_store.specs.Stores.{StoreState, ChangeLists, view_in, changes_left, seen_in}
use Rattle.whips_store.specs.Calls.{slot_for, begun, changed_once, published}
use Rattle.whips_store.specs.First.{first_records, store_at_first}
use Rattle.whips_store.specs.Sound.{IsSlot, IsSoundStore}
use Rattle.whips_slot_words.specs.Words.{ViewShape, Shape, view_shape, IsSlotOf, phase_of, seen_at, pick, IsLiveAt, layout}
use Rattle.whips_slot_words.specs.Stores.{IsUnwritten, IsAllowed, HasHeaders}
use Rattle.whips_slot_words.specs.Slots.{steps_at, records_at, HasRowWidth, change_stores, board_size}
use Rattle.whips_slot_words.specs.Laws.{AreFirstRows}

-- ---- one slot

-- A reader reads what the slot's record shows, at every version.
abbrev pub RecordsShowSlots : Type 0
RecordsShowSlots = (shape : Shape) (words : List ℕ) → HasHeaders shape words → (x i v : ℕ) → IsSlotOf shape x i → visible shape.versions v (steps_at shape words x i) ≡ seen_at shape words x i v

-- The record of a slot is one that a store may have.
abbrev pub SlotsAreRecords : Type 0
SlotsAreRecords = (shape : Shape) (words : List ℕ) → HasHeaders shape words → (x i : ℕ) → IsSlotOf shape x i → IsSlot shape.versions (phase_of words) (steps_at shape words x i)

-- The stores of a change in a slot that may have one are allowed one after another. After them the slot's record is that of the change, the other slots are as before, and so is the phase.
pub record StoresChange (shape : Shape) (words : List ℕ) (x i : ℕ) (change : Change) : Type 0 where
  pub lawful : IsLawful (IsAllowed shape) words (change_stores shape words x i change)
  pub phase : phase_of (words_after words (change_stores shape words x i change)) ≡ phase_of words
  pub slot : steps_at shape (words_after words (change_stores shape words x i change)) x i ≡ steps_after shape.versions (suc (phase_of words / 2)) change (steps_at shape words x i)
  pub others : (y j : ℕ) → IsSlotOf shape y j → (y ≡ x → j ≡ i → ⊥) → steps_at shape (words_after words (change_stores shape words x i change)) y j ≡ steps_at shape words y j

abbrev pub ChangesAreStored : Type 0
ChangesAreStored = (shape : Shape) (words : List ℕ) (x i : ℕ) (change : Change) → 1 ≤ shape.versions → length words ≡ board_size shape → HasHeaders shape words → IsUnwritten shape words x i → HasRowWidth (view_shape shape x).width change → StoresChange shape words x i change

-- ---- a store

-- The words of a board hold a store: its phase and the records of its slots.
pub record HoldsStore (shape : Shape) (words : List ℕ) (s : StoreState) : Type 0 where
  pub size : length words ≡ board_size shape
  pub headers : HasHeaders shape words
  pub versions : s.versions ≡ shape.versions
  pub phase : s.phase ≡ phase_of words
  pub count : length s.views ≡ length shape.views
  pub records : (x : ℕ) → x < length s.views → (view_in s x).records ≡ records_at shape words x
  pub widths : (x : ℕ) → x < length s.views → length (view_in s x).columns.kinds ≡ (view_shape shape x).width

-- A reader of the words reads what the store shows.
abbrev pub LooksAreReads : Type 0
LooksAreReads = (shape : Shape) (words : List ℕ) (s : StoreState) → HoldsStore shape words s → (x i v : ℕ) → IsSlotOf shape x i → seen_in s x i v ≡ seen_at shape words x i v

-- The rows picked at v over the slots of a view are those that the store shows at v.
abbrev pub PickedRowsAreShown : Type 0
PickedRowsAreShown = (shape : Shape) (words : List ℕ) (s : StoreState) → HoldsStore shape words s → (x v : ℕ) → x < length s.views
    → filter_map (λ i. pick shape words x i v) (range_with_len 0 (view_shape shape x).slots) ≡ rows_shown_at s.versions v (view_in s x).records

-- While a change is stored, after each of its stores, a reader at a live version reads what the store showed before.
abbrev pub HalfStoredIsShown : Type 0
HalfStoredIsShown = (shape : Shape) (words : List ℕ) (s : StoreState) (stores : List (ℕ × ℕ)) (k : ℕ) → 1 ≤ shape.versions → HoldsStore shape words s → IsLawful (IsAllowed shape) words stores
    → phase_of (words_after words stores) ≡ phase_of words → (x i v : ℕ) → IsSlotOf shape x i → IsLiveAt shape.versions (phase_of words) v
    → seen_at shape (words_after words (take k stores)) x i v ≡ seen_in s x i v

-- The words with a phase one higher hold the store once a transaction begins, and once its version is committed.
abbrev pub BeginIsStored : Type 0
BeginIsStored = (shape : Shape) (words : List ℕ) (s : StoreState) (cs : ChangeLists) → 1 ≤ shape.versions → HoldsStore shape words s → HoldsStore shape (set words 0 (suc (phase_of words))) (begun cs s)

abbrev pub PublishIsStored : Type 0
PublishIsStored = (shape : Shape) (words : List ℕ) (s : StoreState) → 1 ≤ shape.versions → HoldsStore shape words s → HoldsStore shape (set words 0 (suc (phase_of words))) (published s)

-- the first change that is left is this one, of view x, and it is to be made in slot i
pub record IsNextChange (s : StoreState) (x i : ℕ) (change : Change) (others : List Change) : Type 0 where
  pub view : x < length s.views
  pub earlier : (y : ℕ) → y < x → (view_in s y).left ≡ []
  pub left : (view_in s x).left ≡ change ∷ others
  pub slot : slot_for s.versions (s.phase / 2) (view_in s x).columns.key (change_key (view_in s x).columns.key change) (view_in s x).records ≡ Some i

-- Where changes are left there is a next one, with its slot.
abbrev pub NextChangeIsThere : Type 0
NextChangeIsThere = (s : StoreState) → IsSoundStore s → 0 < changes_left s → (x i : ℕ) × (change : Change) × (others : List Change) × IsNextChange s x i change others

-- The next change of a sound store may be stored in its slot, and the words after its stores hold the store once it is made.
abbrev pub ChangeNextIsStored : Type 0
ChangeNextIsStored = (shape : Shape) (words : List ℕ) (s : StoreState) (x i : ℕ) (change : Change) (others : List Change) → HoldsStore shape words s → IsSoundStore s → IsNextChange s x i change others
    → IsLawful (IsAllowed shape) words (change_stores shape words x i change) × HoldsStore shape (words_after words (change_stores shape words x i change)) (changed_once s)

-- ---- at version 0

-- The first words have the size of the board, and the records of a view are those of its rows at version 0.
abbrev pub LayoutIsFirst : Type 0
LayoutIsFirst = (shape : Shape) (values : List (List Codes)) → 1 ≤ shape.versions → AreFirstRows shape.views values
    → (length (layout shape values) ≡ board_size shape)
    × ((x : ℕ) → x < length shape.views → records_at shape (layout shape values) x ≡ first_records (slice_index_or values x []) ((view_shape shape x).slots - length (slice_index_or values x [])))

-- the board of a setup
abbrev pub shapes_of : List View → List ℕ → List ViewShape
shapes_of [] slots = []
shapes_of (view ∷ views) [] = []
shapes_of (view ∷ views) (n ∷ slots) = record { width = length (row_columns view).kinds; slots = n } ∷ shapes_of views slots

abbrev pub shape_of : SetupData → Shape
shape_of setup = record { versions = setup.versions; views = shapes_of setup.views setup.slots }

abbrev pub first_values : List Table → List View → List ℕ → List (List Codes)
first_values db [] slots = []
first_values db (view ∷ views) [] = []
first_values db (view ∷ views) (n ∷ slots) = value_of view.parts db ∷ first_values db views slots

-- The first words of a setup's board hold the store at version 0, where the views' values fit into the slots.
abbrev pub FirstIsStored : Type 0
FirstIsStored = (setup : SetupData) → 1 ≤ setup.versions → AreFirstRows (shape_of setup).views (first_values setup.initial setup.views setup.slots)
    → HoldsStore (shape_of setup) (layout (shape_of setup) (first_values setup.initial setup.views setup.slots)) (store_at_first setup)
