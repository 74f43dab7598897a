-- The readers of a run: its sessions as code keeps them, beside the store that they read.
use Rattle.std.specs.Prelude.{◌≡◌, ℕ, ◌/◌, ◌&&◌, nat_lt, Bool, List, [], ◌≤◌, length, map, replicate, slice_get, slice_set, is_some, IsSome, Option, Some, None}
use Rattle.std.specs.List.{AllByRecursion}
use Rattle.whips_lists.specs.Lists.{changed_at}
use Rattle.whips_flow.specs.Facts.{Facts}
use Rattle.whips_flow.specs.declared.event.Event.{Event}
use Rattle.whips_flow.specs.declared.event.Event.TheVariants.{SessionOpen, SessionScan, SessionFetch, SessionClose}
use Rattle.whips_row_buf.specs.Buffers.{Buffer}
use Rattle.whips_runs.specs.Sessions.{Session, Scan, not_open, slots_of, is_not_open, is_open, scan_of}
use Rattle.whips_runs.specs.Records.{opened}
use Rattle.whips_reports.specs.Reported.{Reported}
use Rattle.whips_report.specs.Recs.{alone}
use Rattle.whips_store.specs.Stores.{StoreState, view_in}
use Rattle.whips_session.specs.declared.session.Fetched.{Fetched}
use Rattle.whips_session.specs.declared.session.Fetched.TheVariants.{More, Done, Expired}
use Rattle.whips_session.specs.Sessions.{OpenSession, scan_in, state_of, scan_after, session_fetched, answer_of, IsVisit}
use Rattle.whips_session.specs.Laws.{record_of}
use Rattle.whips_session_laws.specs.Readers.{slots_in, IsReader, HasFetched}
use Rattle.whips_contents.specs.Events.{is_enabled_loaded}
use Rattle.whips_core.specs.Cores.{CoreData}

-- A reader as data: its session, where it is open, and for each view the buffer of its last scan of the view.
pub record ReaderData : Type 0 where
  pub session : Option OpenSession
  pub buffers : List (Option Buffer)

-- A reader of so many views that has no open session and has scanned nothing.
abbrev pub closed_reader : ℕ → ReaderData
closed_reader views = record { session = None; buffers = replicate views None }

abbrev pub session_in : Option OpenSession → Session
session_in None = not_open
session_in (Some s) = state_of s

-- The session of the reader, as a run has it.
abbrev pub session_of : ReaderData → Session
session_of r = session_in r.session

-- The buffer is for rows of view x, and has room for a row of each of its slots.
pub record FitsView (store : StoreState) (x : ℕ) (b : Buffer) : Type 0 where
  pub columns : b.columns ≡ (view_in store x).columns
  pub room : length (view_in store x).records ≤ b.room

-- A reader of the store: its buffers fit their views, and an open session reads with the buffer of the view that it scans.
pub record IsReaderIn (store : StoreState) (r : ReaderData) : Type 0 where
  pub long : length r.buffers ≡ length store.views
  pub fits : (x : ℕ) (b : Buffer) → slice_get r.buffers x ≡ Some (Some b) → FitsView store x b
  pub reads : (s : OpenSession) → r.session ≡ Some s → (b : Buffer) × (IsSome s.scan → slice_get r.buffers (scan_in s).view ≡ Some (Some b)) × IsReader store s b

-- The readers of a store have these sessions.
pub record AreReaders (store : StoreState) (readers : List ReaderData) (sessions : List Session) : Type 0 where
  pub sessions_are : map session_of readers ≡ sessions
  pub read : AllByRecursion (IsReaderIn store) readers

-- Whether the event can be done: as a run's machine has it, of the core and its readers.
abbrev pub is_allowed_here : CoreData → List ReaderData → Event → Bool
is_allowed_here c readers (SessionOpen s) = is_not_open (slice_get (map session_of readers) s)
is_allowed_here c readers (SessionScan s x) = is_open (slice_get (map session_of readers) s) && nat_lt x (length c.setup.views)
is_allowed_here c readers (SessionFetch s n) = is_some (scan_of (slice_get (map session_of readers) s)) && nat_lt 0 n
is_allowed_here c readers (SessionClose s) = is_open (slice_get (map session_of readers) s)
is_allowed_here c readers e = is_enabled_loaded c.loaded e

-- ---- calls of a reader

-- A session at the current version, which scans nothing.
abbrev pub opened_session : StoreState → OpenSession
opened_session store = record { versions = store.versions; version = store.phase / 2; scan = None }

-- What is told of a session that opens.
abbrev pub open_line : ℕ → StoreState → Reported
open_line s store = alone (opened s (store.phase / 2) store.phase)

-- The rows that a fetch reports: those of the buffer where it is done.
abbrev pub rows_read : Fetched → Buffer → List (List ℕ)
rows_read More b = []
rows_read Done b = b.rows
rows_read (Expired v phase) b = []

-- What is told of a fetch that visited the scan up to its slot, and of the buffer then.
abbrev pub fetch_line : (phase session : ℕ) → Scan → Fetched → Buffer → Reported
fetch_line phase session scan fetched b = record { entry = record_of phase session scan fetched; rows = rows_read fetched b }

-- A scan of view x begins at its first slot, with an empty buffer that fits the view.
pub record HasBegunScan (store : StoreState) (x : ℕ) (before after : ReaderData) : Type 0 where
  pub session : OpenSession
  pub is_open : before.session ≡ Some session
  pub buffer : Buffer
  pub put : after ≡ record { session = Some (record session { scan = Some (x, 0) }); buffers = slice_set before.buffers x (Some buffer) }
  pub fits : FitsView store x buffer
  pub empty : buffer.rows ≡ []

-- A fetch of n slots from the store, of which this is told.
pub record HasFetchedFrom (store : StoreState) (session n : ℕ) (before after : ReaderData) (line : Reported) : Type 0 where
  pub old : OpenSession
  pub is_open : before.session ≡ Some old
  pub scans : IsSome old.scan
  pub new : OpenSession
  pub buffer : Buffer
  pub fetched : Fetched
  pub put : after ≡ record { session = Some new; buffers = slice_set before.buffers (scan_in old).view (Some buffer) }
  pub fits : FitsView store (scan_in old).view buffer
  pub goes_on : new ≡ session_fetched (slots_in store (scan_in old)) n store.phase old
  pub answer : fetched ≡ answer_of (slots_in store (scan_in old)) n store.phase old
  pub did : HasFetched store old new fetched store.phase buffer
  pub visit : (f : Facts) → f.versions ≡ old.versions → slots_of f (scan_in old) ≡ slots_in store (scan_in old) → IsVisit f n store.phase old new fetched
  pub told : line ≡ fetch_line store.phase session (scan_after (slots_in store (scan_in old)) n (scan_in old)) fetched buffer

-- The call changed one reader of the list, as it says.
abbrev pub ChangedAt : ℕ → (ReaderData → ReaderData → Type 0) → (before after : List ReaderData) → Type 0
ChangedAt s did before after = (r : ReaderData) × (t : ReaderData) × (slice_get before s ≡ Some r) × did r t × (after ≡ changed_at s (λ _. t) before)
