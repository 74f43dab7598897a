-- What holds of a store at each moment.
use Rattle.std.specs.Prelude.{◌≡◌, ◌↔◌, ℕ, suc, ◌-◌, ◌/◌, ◌%◌, ◌<◌, ◌≤◌, List, [], ◌∷◌, length, not, is_some, slice_index_or, false, Some}
use Rattle.std.specs.List.{All, AllPairs, AllByRecursion}
use Rattle.whips_model.specs.Tuples.{Codes, at_columns, row_at}
use Rattle.whips_model.specs.Relation.{IsTable}
use Rattle.whips_changes.specs.Changes.{union_rows, net_changes}
use Rattle.whips_vnl.specs.Records.{seen_row, visible, is_removed, IsWithinPhase}
use Rattle.whips_vnl.specs.declared.record.Vstep.{Vstep}
use Rattle.whips_store.specs.Versions.{row_seen, is_older, rows_shown_at}
use Rattle.whips_store.specs.Stores.{ViewState, StoreState}
use Rattle.whips_store.specs.Calls.{slots_needed, AreRowsWithin}

-- The steps of a slot's record: versions fall and aren't above the one that is written, a step has a row exactly where it isn't a removal, and at most n are kept; nVNL 1997. A blank slot has none.
pub record IsSlot (n phase : ℕ) (steps : List Vstep) : Type 0 where
  pub falling : AllPairs (λ s older. older.vn < s.vn) steps
  pub rows : All (λ s. is_some s.row ≡ not (is_removed s.op)) steps
  pub kept : length steps ≤ n
  pub within : IsWithinPhase phase steps

-- a version in use while the one after c is written, or that one
abbrev pub IsReadable : ℕ → ℕ → ℕ → Type 0
IsReadable n c v = (c - (n - 2) ≤ v) × (v ≤ suc c)

-- At such versions rows with one key are in one slot, and a slot's rows have one key.
abbrev pub HasSlotForKey : List ℕ → ℕ → ℕ → List (List Vstep) → Type 0
HasSlotForKey columns n c records = (i j v w : ℕ) (t u : Codes) → i < length records → j < length records → IsReadable n c v → IsReadable n c w
    → visible n v (slice_index_or records i []) ≡ seen_row t → visible n w (slice_index_or records j []) ≡ seen_row u → (at_columns columns t ≡ at_columns columns u) ↔ (i ≡ j)

-- A slot in which a change of the version after c was made: it shows a row at some such version, and at the version after c it shows what the new rows have with that row's key.
pub record IsWritten (columns : List ℕ) (n c : ℕ) (new : List Codes) (steps : List Vstep) : Type 0 where
  pub shown : (v : ℕ) × (t : Codes) × IsReadable n c v × (visible n v steps ≡ seen_row t)
  pub rows : (v : ℕ) (t : Codes) → IsReadable n c v → visible n v steps ≡ seen_row t → row_at columns (at_columns columns t) new ≡ row_seen (visible n (suc c) steps)

-- each row of these steps has this many codes
abbrev pub StepsHaveWidth : ℕ → List Vstep → Type 0
StepsHaveWidth width steps = AllByRecursion (λ s. (t : Codes) → s.row ≡ Some t → length t ≡ width) steps

-- A view in a store: its slots show the current rows at the committed version; the changes that are left take what they show at the next one to the new rows; there are slots for all of these; no number of these rows is above the greatest; and no change is left where no maintenance is active.
pub record IsSoundView (n phase : ℕ) (v : ViewState) : Type 0 where
  pub current : IsTable v.columns v.current
  pub new : IsTable v.columns v.next
  pub records : AllByRecursion (IsSlot n phase) v.records
  pub widths : AllByRecursion (StepsHaveWidth (length v.columns.kinds)) v.records
  pub keys : HasSlotForKey v.columns.key n (phase / 2) v.records
  pub written : AllByRecursion (λ steps. is_older (phase / 2) steps ≡ false → IsWritten v.columns.key n (phase / 2) v.next steps) v.records
  pub committed : union_rows v.columns.key (rows_shown_at n (phase / 2) v.records ∷ []) ≡ v.current
  pub left : net_changes v.columns.key (union_rows v.columns.key (rows_shown_at n (suc (phase / 2)) v.records ∷ [])) v.next ≡ v.left
  pub room : slots_needed n (phase / 2) v v.next ≤ length v.records
  pub numbers : AreRowsWithin v.columns.kinds v.current
  pub new_numbers : AreRowsWithin v.columns.kinds v.next
  pub quiet : phase % 2 ≡ 0 → v.left ≡ []

-- What a store keeps.
pub record IsSoundStore (s : StoreState) : Type 0 where
  pub least : 2 ≤ s.versions
  pub most : s.versions ≤ 4
  pub views : AllByRecursion (IsSoundView s.versions s.phase) s.views
