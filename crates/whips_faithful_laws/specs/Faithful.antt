-- What the slots of a store show at each version that readers may read.
use Rattle.std.specs.Prelude.{◌≡◌, ℕ, suc, ◌+◌, ◌*◌, ◌/◌, ◌%◌, ◌<◌, ◌≤◌, List, [], ◌∷◌, ◌++◌, length, map, slice_index_or}
use Rattle.whips_lists.specs.Members.{AreDistinct}
use Rattle.whips_model.specs.Tuples.{Codes, at_columns}
use Rattle.whips_rel.specs.declared.update.Change.{Change}
use Rattle.whips_changes.specs.Changes.{union_rows, net_changes}
use Rattle.whips_net.specs.Made.{all_changed_rows}
use Rattle.whips_flow.specs.Staleness.{IsStale}
use Rattle.whips_store.specs.Versions.{rows_shown_at}
use Rattle.whips_store.specs.Stores.{ViewState, StoreState, ChangeLists, view_in}

-- A version that was committed by this phase and isn't stale at it: a reader may read it; nVNL 1997.
pub record IsLiveVersion (n phase v : ℕ) : Type 0 where
  pub committed : 2 * v ≤ phase
  pub fresh : IsStale n v phase → ⊥

-- These rows, no two of which have one key, are in the order of their keys the values; own.
pub record AreRowsOf (columns : List ℕ) (values rows : List Codes) : Type 0 where
  pub own : AreDistinct (map (at_columns columns) rows)
  pub ordered : union_rows columns (rows ∷ []) ≡ values

-- While the version after c is written: the changes that are left are the last of the net changes from the current rows to the new ones, and the others are made in the slots; own.
pub record IsHalfMade (n c : ℕ) (v : ViewState) : Type 0 where
  pub made : List Change
  pub net : made ++ v.left ≡ net_changes v.columns.key v.current v.next
  pub slots : union_rows v.columns.key (rows_shown_at n (suc c) v.records ∷ []) ≡ all_changed_rows v.columns.key v.current made

-- A view in a store whose rows at each version are these: its slots show them at each version that is live, the current rows are those at the committed version, and the new ones those at the version that is written; own.
pub record IsFaithfulView (n phase : ℕ) (values : ℕ → List Codes) (v : ViewState) : Type 0 where
  pub shown : (w : ℕ) → IsLiveVersion n phase w → AreRowsOf v.columns.key (values w) (rows_shown_at n w v.records)
  pub current : v.current ≡ values (phase / 2)
  pub new : v.next ≡ values ((phase + 1) / 2)
  pub active : phase % 2 ≡ 1 → IsHalfMade n (phase / 2) v

-- A store that is faithful to the values of each view, by its number, at each version. Of a version that wasn't begun the values may be any; own.
abbrev pub IsFaithful : (ℕ → ℕ → List Codes) → StoreState → Type 0
IsFaithful values s = (x : ℕ) → x < length s.views → IsFaithfulView s.versions s.phase (values x) (view_in s x)

-- the rows of view x afterwards
abbrev pub new_rows : ChangeLists → ℕ → List Codes
new_rows cs x = slice_index_or (map (λ c. c.0.rows) cs) x []
