-- What a session has read of a store that stands still during each of its calls, and goes on between them.
use Rattle.std.specs.Prelude.{◌≡◌, ℕ, ◌*◌, ◌/◌, ◌<◌, ◌≤◌, List, [], length, Some, None, IsSome}
use Rattle.whips_model.specs.Tuples.{Codes}
use Rattle.whips_flow.specs.Staleness.{IsStale}
use Rattle.whips_row_buf.specs.Buffers.{Buffer}
use Rattle.whips_runs.specs.Sessions.{Scan}
use Rattle.whips_store.specs.Stores.{StoreState, view_in}
use Rattle.whips_store.specs.Reads.{Log, still_phase_says, still_row_says}
use Rattle.whips_session.specs.declared.session.Fetched.{Fetched}
use Rattle.whips_session.specs.declared.session.Fetched.TheVariants.{Done}
use Rattle.whips_session.specs.Sessions.{OpenSession, scan_in, IsScanBuffer, scan_after, session_fetched, answer_of}
use Rattle.whips_session.specs.Reads.{FetchSaid}
use Rattle.whips_faithful_laws.specs.Faithful.{IsFaithful}
use Rattle.whips_faithful_laws.specs.Scans.{IsLater, seen_from, with_all_seen}

-- how many slots the scan's view has in this store
abbrev pub slots_in : StoreState → Scan → ℕ
slots_in store scan = length (view_in store scan.view).records

-- The buffer is ready for the scan's next slots of this store. Where the scan's version isn't stale, it holds what the slots before them show now at that version, and nothing else; own.
pub record HoldsScan (store : StoreState) (scan : Scan) (b : Buffer) : Type 0 where
  pub view : scan.view < length store.views
  pub within : scan.slot ≤ slots_in store scan
  pub ready : IsScanBuffer (view_in store scan.view).columns (slots_in store scan) scan.slot b
  pub shown : (IsStale store.versions scan.version store.phase → ⊥)
      → b ≡ with_all_seen (seen_from store scan.view scan.version 0 scan.slot) (record b { rows = [] })

-- A reader of the store as it is now: a session at a version that was committed by now, whose scan, where one goes on, has its rows in the buffer; own.
pub record IsReader (store : StoreState) (s : OpenSession) (b : Buffer) : Type 0 where
  pub versions : s.versions ≡ store.versions
  pub committed : 2 * s.version ≤ store.phase
  pub scan : IsSome s.scan → HoldsScan store (scan_in s) b

-- ---- laws

-- A session at the version that is current is a reader, whatever is in the buffer.
abbrev pub OpenedIsReader : Type 0
OpenedIsReader = (store : StoreState) (b : Buffer) → IsReader store (record { versions = store.versions; version = store.phase / 2; scan = None }) b

-- A reader is one of the store at each later moment.
abbrev pub ReaderStays : Type 0
ReaderStays = (store later : StoreState) (s : OpenSession) (b : Buffer) → IsReader store s b → IsLater store later → IsReader later s b

-- A reader that begins a scan of view x, with an empty buffer that has room for a row of each slot, is a reader.
abbrev pub ScanIsReader : Type 0
ScanIsReader = (store : StoreState) (s : OpenSession) (x : ℕ) (was b : Buffer) → IsReader store s was → x < length store.views
    → b.columns ≡ (view_in store x).columns → length (view_in store x).records ≤ b.room → b.rows ≡ [] → IsReader store (record s { scan = Some (x, 0) }) b

-- A fetch from this store by a reader left it a reader, and ended at the store's phase. Where it is done, the rows are the view's values at the session's version, whatever the values to which the store is faithful.
pub record HasFetched (store : StoreState) (s t : OpenSession) (fetched : Fetched) (phase : ℕ) (b : Buffer) : Type 0 where
  pub phase_is : phase ≡ store.phase
  pub reader : IsReader store t b
  pub values : fetched ≡ Done → (values : ℕ → ℕ → List Codes) → IsFaithful values store → b.rows ≡ values (scan_in s).view s.version

-- So does each fetch by a look at a store that stands still meanwhile.
abbrev pub StillFetches : {B : Type 0} → (B → StoreState) → Type 0
StillFetches {B} state = (base : B) (old new : Log) (s : OpenSession) (n phase : ℕ) (b after : Buffer) → IsSome s.scan → IsReader (state base) s b
    → let slots = slots_in (state base) (scan_in s) in
    FetchSaid (λ c. still_phase_says (state c)) (λ c. still_row_says (state c)) base old new (scan_in s) (scan_after slots n (scan_in s)).slot b after phase
    → HasFetched (state base) s (session_fetched slots n phase s) (answer_of slots n phase s) phase after
