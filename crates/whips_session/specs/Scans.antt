-- What a session has read in a scan, as the log of its look says.
use Rattle.std.specs.Prelude.{◌≡◌, ℕ, ◌+◌, ◌≤◌, min, List, [], ◌∷◌, ◌++◌, length, fold}
use Rattle.std.specs.List.{flat_map}
use Rattle.whips_row_buf.specs.Buffers.{Buffer}
use Rattle.whips_vnl.specs.Records.{Seen}
use Rattle.whips_store.specs.Stores.{with_seen}
use Rattle.whips_store.specs.Reads.{Log, PhaseSays, RowSays}
use Rattle.whips_session.specs.Reads.{FetchSays, FetchSaid}

-- A fetch in a log: the place where it begins, what it saw, the phase at which it ended, and the place after its entries.
pub record LoggedFetch : Type 0 where
  pub start : ℕ
  pub seen : List Seen
  pub phase : ℕ
  pub next : ℕ

abbrev pub all_seen : List LoggedFetch → List Seen
all_seen fetches = flat_map (λ f. f.seen) fetches

-- that the log says these fetches of view x at version v, which visited its slots from slot i on; none begins before the one before it ended, nor the first before this place
abbrev pub FetchesSay : {B : Type 0} → PhaseSays B → RowSays B → (base : B) (log : Log) (from x i v : ℕ) (fetches : List LoggedFetch) → Type 0
FetchesSay phase_says row_says base log from x i v [] = from ≤ length log
FetchesSay phase_says row_says base log from x i v (f ∷ fetches) =
    (from ≤ f.start) × FetchSays phase_says row_says base log f.start x i v f.seen f.phase f.next × FetchesSay phase_says row_says base log f.next x (i + length f.seen) v fetches

-- A scan has visited the slots of view x before this one, of so many, in these fetches, and the buffer has what they saw.
pub record HasScanned {B : Type 0} (phase_says : PhaseSays B) (row_says : RowSays B) (base : B) (log : Log) (x v slots next : ℕ) (fetches : List LoggedFetch) (b : Buffer) : Type 0 where
  pub said : FetchesSay phase_says row_says base log 0 x 0 v fetches
  pub visited : length (all_seen fetches) ≡ next
  pub within : next ≤ slots
  -- the buffer as the scan began
  pub first : Buffer
  pub empty : first.rows ≡ []
  pub put : b ≡ fold (λ b s. with_seen s b) first (all_seen fetches)

-- A scan that begins has no fetch; one more fetch of n slots goes on with it, and it stays as the log goes on.
pub record ScansGoOn {B : Type 0} (phase_says : PhaseSays B) (row_says : RowSays B) : Type 0 where
  pub begins : (base : B) (log : Log) (x v slots : ℕ) (b : Buffer) → b.rows ≡ [] → HasScanned phase_says row_says base log x v slots 0 [] b
  pub fetch : (base : B) (old new : Log) (x v slots next n phase : ℕ) (fetches : List LoggedFetch) (before after : Buffer) → HasScanned phase_says row_says base old x v slots next fetches before
      → FetchSaid phase_says row_says base old new (record { version = v; view = x; slot = next }) (min (next + n) slots) before after phase
      → (f : LoggedFetch) × (f.phase ≡ phase) × HasScanned phase_says row_says base new x v slots (min (next + n) slots) (fetches ++ f ∷ []) after
  pub stays : (base : B) (log more : Log) (x v slots next : ℕ) (fetches : List LoggedFetch) (b : Buffer) → HasScanned phase_says row_says base log x v slots next fetches b
      → HasScanned phase_says row_says base (log ++ more) x v slots next fetches b
