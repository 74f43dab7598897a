-- What a session reads in a scan of a view, while the store goes on.
use Rattle.std.specs.Prelude.{◌≡◌, ℕ, ◌+◌, ◌*◌, ◌<◌, ◌≤◌, List, [], ◌∷◌, ◌++◌, length, map, fold}
use Rattle.std.specs.List.{AllByRecursion, sum_by}
use Rattle.whips_model.specs.Tuples.{Codes}
use Rattle.whips_row_buf.specs.Buffers.{Buffer}
use Rattle.whips_vnl.specs.Records.{Seen}
use Rattle.whips_store.specs.Stores.{StoreState, view_in, seen_in, with_seen}
use Rattle.whips_faithful_laws.specs.Faithful.{IsFaithful}
use Rattle.whips_lists.specs.Lists.{places_from}
use Rattle.whips_flow.specs.Staleness.{IsStale}

-- ---- a store at two moments

-- A later moment of a store: at a version that was committed at the earlier moment and isn't stale at the later one, its slots show the same; own.
pub record IsLater (earlier later : StoreState) : Type 0 where
  pub versions : later.versions ≡ earlier.versions
  pub phase : earlier.phase ≤ later.phase
  pub views : length later.views ≡ length earlier.views
  pub slots : (x : ℕ) → length (view_in later x).records ≡ length (view_in earlier x).records
  pub columns : (x : ℕ) → (view_in later x).columns ≡ (view_in earlier x).columns
  pub same : (x i v : ℕ) → 2 * v ≤ earlier.phase → (IsStale later.versions v later.phase → ⊥) → seen_in later x i v ≡ seen_in earlier x i v

-- A moment is no earlier than itself, and later ones follow one another.
abbrev pub MomentsFollow : Type 0
MomentsFollow = ((s : StoreState) → IsLater s s) × ((a b c : StoreState) → IsLater a b → IsLater b c → IsLater a c)

-- ---- a scan

-- a visit of so many slots in a row, while the store is as it is here; own
pub record Visit : Type 0 where
  pub store : StoreState
  pub slots : ℕ

-- how many slots are visited
abbrev pub slots_visited : List Visit → ℕ
slots_visited visits = sum_by (λ v. v.slots) visits

-- what these slots of view x show at version v: so many from slot i on
abbrev pub seen_from : StoreState → ℕ → ℕ → ℕ → ℕ → List Seen
seen_from s x v i count = map (λ j. seen_in s x j v) (places_from i count)

-- what the visits see of view x at version v, one after another from slot i on
abbrev pub seen_in_visits : ℕ → ℕ → ℕ → List Visit → List Seen
seen_in_visits x v i [] = []
seen_in_visits x v i (visit ∷ visits) = seen_from visit.store x v i visit.slots ++ seen_in_visits x v (i + visit.slots) visits

-- the buffer once it has all that was seen
abbrev pub with_all_seen : List Seen → Buffer → Buffer
with_all_seen seen b = fold (λ b s. with_seen s b) b seen

-- A visit of a store that goes on to this moment, at a version that was committed by the visit; own.
pub record IsEarlierVisit (v : ℕ) (last : StoreState) (visit : Visit) : Type 0 where
  pub before : IsLater visit.store last
  pub committed : 2 * v ≤ visit.store.phase

-- What visits see at a version that isn't stale at the last moment is what the slots show then.
abbrev pub VisitsSeeOneStore : Type 0
VisitsSeeOneStore = (last : StoreState) (x v i : ℕ) (visits : List Visit) → (IsStale last.versions v last.phase → ⊥) → AllByRecursion (IsEarlierVisit v last) visits
    → seen_in_visits x v i visits ≡ seen_from last x v i (slots_visited visits)

-- ---- a session

-- The visits follow one another from this moment on; own.
abbrev pub AreInTurn : StoreState → List Visit → Type 0
AreInTurn s [] = Unit {0}
AreInTurn s (visit ∷ visits) = IsLater s visit.store × AreInTurn visit.store visits

-- the store at the last of the visits, or at this moment where there are none
abbrev pub store_at_last : StoreState → List Visit → StoreState
store_at_last s [] = s
store_at_last s (visit ∷ visits) = store_at_last visit.store visits

-- A session at a version that was committed when it opened scans a view, in as many visits as it likes, while the store goes on. Where its version isn't stale at the last visit, all rows of the view at that version are in the buffer once all slots were visited, in the order of their keys.
abbrev pub SessionsReadValues : Type 0
SessionsReadValues = (values : ℕ → ℕ → List Codes) (opened : StoreState) (x v : ℕ) (visits : List Visit) (b : Buffer) → 2 * v ≤ opened.phase → AreInTurn opened visits
    → IsFaithful values (store_at_last opened visits) → (IsStale (store_at_last opened visits).versions v (store_at_last opened visits).phase → ⊥)
    → x < length opened.views → slots_visited visits ≡ length (view_in opened x).records → b.columns.key ≡ (view_in opened x).columns.key → b.rows ≡ []
    → with_all_seen (seen_in_visits x v 0 visits) b ≡ record b { rows = values x v }

-- A session that goes on: one more visit, on a later moment, stays in turn; what it sees is put behind what was read.
abbrev pub VisitsGoOn : Type 0
VisitsGoOn = (opened : StoreState) (x v : ℕ) (visits : List Visit) (visit : Visit) (b : Buffer) → AreInTurn opened visits → IsLater (store_at_last opened visits) visit.store
    → AreInTurn opened (visits ++ visit ∷ []) × (store_at_last opened (visits ++ visit ∷ []) ≡ visit.store) × (slots_visited (visits ++ visit ∷ []) ≡ slots_visited visits + visit.slots)
    × (with_all_seen (seen_in_visits x v 0 (visits ++ visit ∷ [])) b ≡ with_all_seen (seen_from visit.store x v (slots_visited visits) visit.slots) (with_all_seen (seen_in_visits x v 0 visits) b))
