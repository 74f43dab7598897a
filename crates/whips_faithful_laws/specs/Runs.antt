-- Calls of a store, one after another.
use Rattle.std.specs.Prelude.{◌≡◌, ◌⊎◌, ℕ, suc, ◌/◌, ◌%◌, ◌<◌, ◌≤◌, List, [], ◌∷◌, length, slice_index_or, Some, None}
use Rattle.std.specs.List.{AllByRecursion}
use Rattle.whips_model.specs.Tuples.{Codes}
use Rattle.whips_store.specs.Stores.{StoreState, ChangeLists, changes_left}
use Rattle.whips_store.specs.Calls.{AreNet, shortage, begun, changed_once, published}
use Rattle.whips_store.specs.Sound.{IsSoundStore}
use Rattle.whips_store_laws.specs.Laws.{AreTables}
use Rattle.whips_faithful_laws.specs.Faithful.{IsFaithful}
use Rattle.whips_faithful_laws.specs.Laws.{LeadToNext}
use Rattle.whips_faithful_laws.specs.Scans.{IsLater}

-- A transaction of net changes begins that no view is short of slots for and that leads to the values at the next version; own.
pub record Begins (values : ℕ → ℕ → List Codes) (s t : StoreState) : Type 0 where
  pub changes : ChangeLists
  pub quiet : s.phase % 2 ≡ 0
  pub net : AreNet s.views changes
  pub tables : AreTables changes
  pub room : shortage s changes ≡ None
  pub next : LeadToNext values s changes
  pub store : t ≡ begun changes s

-- A version is committed once all changes are made; 2VNL 1997.
pub record Publishes (s t : StoreState) : Type 0 where
  pub active : s.phase % 2 ≡ 1
  pub made : changes_left s ≡ 0
  pub store : t ≡ published s

-- one call of a store that is to show these values; own
abbrev pub IsCall : (ℕ → ℕ → List Codes) → StoreState → StoreState → Type 0
IsCall values s t = Begins values s t ⊎ ((t ≡ changed_once s) ⊎ Publishes s t)

-- the stores after calls, one after another from this one
abbrev pub AreCalls : (ℕ → ℕ → List Codes) → StoreState → List StoreState → Type 0
AreCalls values s [] = Unit {0}
AreCalls values s (t ∷ ts) = IsCall values s t × AreCalls values t ts

-- After each of these calls the store is sound and faithful, and it is a later moment of the store.
abbrev pub CallsKeepFaithful : Type 0
CallsKeepFaithful = (values : ℕ → ℕ → List Codes) (s : StoreState) (ts : List StoreState) → IsSoundStore s → IsFaithful values s → AreCalls values s ts
    → AllByRecursion (λ t. IsSoundStore t × IsFaithful values t × IsLater s t) ts

-- ---- what a store tells of its past

-- The past that a store tells, where it tells one, has the views' values at each version up to the committed one; own.
abbrev pub TellsValues : (ℕ → ℕ → List Codes) → StoreState → Type 0
TellsValues values s = (past : List (List (List Codes))) → s.past ≡ Some past → (length past ≡ suc (s.phase / 2)) × ((x v : ℕ) → x < length s.views → v ≤ s.phase / 2 → slice_index_or (slice_index_or past v []) x [] ≡ values x v)

-- A faithful store that tells the values goes on to tell them.
abbrev pub CallsKeepTelling : Type 0
CallsKeepTelling = (values : ℕ → ℕ → List Codes) (s t : StoreState) → IsFaithful values s → TellsValues values s → IsCall values s t → TellsValues values t
