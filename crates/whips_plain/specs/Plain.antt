-- What a plain store keeps.
use Rattle.std.specs.Prelude.{◌≡◌, ℕ, ◌<◌, ◌≤◌, ◌^◌, List, [], length, slice_index_or}
use Rattle.std.specs.List.{sum_by, AllByRecursion}
use Rattle.whips_rel.specs.declared.update.Change.{Change}
use Rattle.whips_store.specs.Stores.{ViewState, StoreState, ChangeLists, no_view, changes_left}
use Rattle.whips_store.specs.Sound.{IsSoundStore, StepsHaveWidth}
use Rattle.whips_plain_store.specs.Plain.{IsFirstChange}

-- each row in the view's slots has a code for each column
abbrev pub HasWidths : ViewState → Type 0
HasWidths v = AllByRecursion (StepsHaveWidth (length v.columns.kinds)) v.records

abbrev pub HasFewSlots : ViewState → Type 0
HasFewSlots v = length v.records < 2 ^ 32

-- how many changes there are in all
abbrev pub count : ChangeLists → ℕ
count cs = sum_by (λ c. length c.1) cs

-- A plain store: it is sound, has up to 8 views with fewer than 2^32 slots each and a phase up to 2^62, and counts the changes that are left.
pub record IsPlain (changes : ℕ) (s : StoreState) : Type 0 where
  pub sound : IsSoundStore s
  pub left : changes ≡ changes_left s
  pub few : length s.views ≤ 8
  pub slots : AllByRecursion HasFewSlots s.views
  pub phase : s.phase ≤ 2 ^ 62

-- The first change that is left in these views is this one, of view x, and it is to be made in slot i.
pub record IsFirstLeft (n c : ℕ) (vs : List ViewState) (x i : ℕ) (change : Change) : Type 0 where
  pub view : x < length vs
  pub earlier : (y : ℕ) → y < x → (slice_index_or vs y no_view).left ≡ []
  pub first : IsFirstChange n c (slice_index_or vs x no_view) i change
