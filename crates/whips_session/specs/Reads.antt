-- What a session reads, as the log of its look says.
use Rattle.std.specs.Prelude.{◌≡◌, ℕ, suc, ◌-◌, List, [], ◌∷◌, ◌++◌, length, fold}
use Rattle.whips_row_buf.specs.Buffers.{Buffer}
use Rattle.whips_runs.specs.Sessions.{Scan}
use Rattle.whips_vnl.specs.Records.{Seen}
use Rattle.whips_store.specs.Stores.{with_seen}
use Rattle.whips_store.specs.Reads.{Log, PhaseSays, RowSays, PhaseSaid}

-- that calls which begin at a place of the log, one after another, saw this in the slots of view x from slot i on at version v, and which place comes after them
abbrev pub RowsSay : {B : Type 0} → RowSays B → (base : B) (log : Log) (at x i v : ℕ) (seen : List Seen) (next : ℕ) → Type 0
RowsSay says base log at x i v [] next = next ≡ at
RowsSay says base log at x i v (s ∷ seen) next = (mid : ℕ) × says base log at x i v s mid × RowsSay says base log mid x (suc i) v seen next

-- A fetch says what it saw in so many slots from slot i on, and then the phase.
pub record FetchSays {B : Type 0} (phase_says : PhaseSays B) (row_says : RowSays B) (base : B) (log : Log) (at x i v : ℕ) (seen : List Seen) (phase next : ℕ) : Type 0 where
  pub mid : ℕ
  pub rows : RowsSay row_says base log at x i v seen mid
  pub loaded : phase_says base log mid phase next

-- The log went on by looks at the scan's slots before this one, each once and in order, and what they saw was put.
pub record RowsSaid {B : Type 0} (says : RowSays B) (base : B) (old new : Log) (scan : Scan) (to : ℕ) (before after : Buffer) : Type 0 where
  pub seen : List Seen
  pub visited : length seen ≡ to - scan.slot
  pub rest : Log
  pub goes_on : new ≡ old ++ rest
  pub said : RowsSay says base new (length old) scan.view scan.slot scan.version seen (length new)
  pub put : after ≡ fold (λ b s. with_seen s b) before seen

-- The log went on by such looks, and then by one load of the phase.
abbrev pub FetchSaid : {B : Type 0} → PhaseSays B → RowSays B → (base : B) (old new : Log) (scan : Scan) (to : ℕ) (before after : Buffer) (phase : ℕ) → Type 0
FetchSaid phase_says row_says base old new scan to before after phase =
    (mid : Log) × RowsSaid row_says base old mid scan to before after × PhaseSaid phase_says base mid new phase

-- ---- laws

-- What holds of a log holds of every log that begins with it.
abbrev pub FetchStays : {B : Type 0} → PhaseSays B → RowSays B → Type 0
FetchStays {B} phase_says row_says = (base : B) (log more : Log) (at x i v : ℕ) (seen : List Seen) (phase next : ℕ)
    → FetchSays phase_says row_says base log at x i v seen phase next → FetchSays phase_says row_says base (log ++ more) at x i v seen phase next

-- Of fetches of equally many slots the other arguments determine what was seen, the phase, and the place after the entries.
abbrev pub FetchIsDetermined : {B : Type 0} → PhaseSays B → RowSays B → Type 0
FetchIsDetermined {B} phase_says row_says = (base : B) (log : Log) (at x i v : ℕ) (seen other : List Seen) (p q next after : ℕ) → length seen ≡ length other
    → FetchSays phase_says row_says base log at x i v seen p next → FetchSays phase_says row_says base log at x i v other q after → (seen ≡ other) × (p ≡ q) × (next ≡ after)
