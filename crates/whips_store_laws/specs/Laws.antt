-- Laws on stores of versioned rows.
use Rattle.std.specs.Prelude.{◌≡◌, ◌≢◌, ℕ, ◌*◌, ◌%◌, ◌<◌, ◌≤◌, length, None, List}
use Rattle.std.specs.List.{AllByRecursion}
use Rattle.whips_model.specs.Tuples.{Codes, Columns}
use Rattle.whips_model.specs.Relation.{IsTable}
use Rattle.whips_vnl.specs.Records.{seen_past}
use Rattle.whips_flow.specs.Staleness.{IsStale}
use Rattle.whips_store.specs.Stores.{StoreState, ChangeLists, view_in, changes_left, seen_in}
use Rattle.whips_store.specs.Calls.{AreNet, AreRowsWithin, shortage, begun, changed_once, published}
use Rattle.whips_store.specs.First.{first_view}
use Rattle.whips_store.specs.Sound.{IsSoundView, IsSoundStore}

-- the rows afterwards are tables of their columns
abbrev pub AreTables : ChangeLists → Type 0
AreTables cs = AllByRecursion (λ c. IsTable c.0.columns c.0.rows) cs

-- A store stays sound when a transaction of net changes begins that no view is short of slots for.
abbrev pub BeginKeepsSound : Type 0
BeginKeepsSound = (s : StoreState) (cs : ChangeLists) → IsSoundStore s → s.phase % 2 ≡ 0 → AreNet s.views cs → AreTables cs → shortage s cs ≡ None → IsSoundStore (begun cs s)

-- A store stays sound when a change is made.
abbrev pub ChangeKeepsSound : Type 0
ChangeKeepsSound = (s : StoreState) → IsSoundStore s → IsSoundStore (changed_once s)

-- A store stays sound when a version is committed.
abbrev pub PublishKeepsSound : Type 0
PublishKeepsSound = (s : StoreState) → IsSoundStore s → s.phase % 2 ≡ 1 → changes_left s ≡ 0 → IsSoundStore (published s)

-- A change leaves what each slot shows at a version that was committed and isn't stale; nVNL 1997.
abbrev pub ChangeKeepsReads : Type 0
ChangeKeepsReads = (s : StoreState) → IsSoundStore s → (x i v : ℕ) → 2 * v ≤ s.phase → (IsStale s.versions v s.phase → ⊥) → seen_in (changed_once s) x i v ≡ seen_in s x i v

-- What the slots show is the same after a transaction begins, and after its version is committed.
abbrev pub BeginKeepsReads : Type 0
BeginKeepsReads = (s : StoreState) (cs : ChangeLists) (x i v : ℕ) → seen_in (begun cs s) x i v ≡ seen_in s x i v

abbrev pub PublishKeepsReads : Type 0
PublishKeepsReads = (s : StoreState) (x i v : ℕ) → seen_in (published s) x i v ≡ seen_in s x i v

-- In a store no slot is past at a version that isn't stale; nVNL 1997.
abbrev pub LiveVersionsAreShown : Type 0
LiveVersionsAreShown = (s : StoreState) → IsSoundStore s → (x i v : ℕ) → x < length s.views → i < length (view_in s x).records → (IsStale s.versions v s.phase → ⊥) → seen_in s x i v ≢ seen_past

-- A view with no number above the greatest is sound in a store at version 0.
abbrev pub FirstIsSound : Type 0
FirstIsSound = (n : ℕ) (columns : Columns) (rows : List Codes) (spare : ℕ) → 2 ≤ n → IsTable columns rows → AreRowsWithin columns.kinds rows
    → IsSoundView n 0 (first_view columns rows spare)
