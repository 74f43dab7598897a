-- Sessions of readers as data, and what a fetch makes of one.
use Rattle.std.specs.Prelude.{◌≡◌, ℕ, ◌+◌, ◌≤◌, min, ◌&&◌, not, nat_lt, length, Option, Some, None, unwrap_or, if◌then◌else◌}
use Rattle.whips_model.specs.Tuples.{Columns}
use Rattle.whips_row_buf.specs.Buffers.{Buffer}
use Rattle.whips_flow.specs.Facts.{Facts}
use Rattle.whips_flow.specs.Staleness.{is_stale}
use Rattle.whips_runs.specs.Sessions.{Scan, Session, open_at, scanning, slots_of, visited_scan, session_after_visit}
use Rattle.whips_session.specs.declared.session.Fetched.{Fetched}
use Rattle.whips_session.specs.declared.session.Fetched.TheVariants.{More, Done, Expired}

-- An open session: how many versions stay readable, its version, and where a scan goes on its view and next slot; 2VNL 1997, with scans of its own.
pub record OpenSession : Type 0 where
  pub versions : ℕ
  pub version : ℕ
  pub scan : Option (ℕ × ℕ)

-- the scan at version v of this view that visits this slot next
abbrev pub scan_from : (v : ℕ) → (place : ℕ × ℕ) → Scan
scan_from v place = record { version = v; view = place.0; slot = place.1 }

-- the scan that goes on; where none does, one of view 0 that has visited nothing
abbrev pub scan_in : OpenSession → Scan
scan_in s = scan_from s.version (unwrap_or s.scan (0, 0))

abbrev pub session_with : ℕ → Option (ℕ × ℕ) → Session
session_with v None = open_at v
session_with v (Some place) = scanning (scan_from v place)

-- the session as a run of the pipeline has it
abbrev pub state_of : OpenSession → Session
state_of s = session_with s.version s.scan

-- What a scan that has visited so many of the view's slots has in its buffer: rows of the view's columns, one for each visited slot at most, with room for one of each slot; own.
pub record IsScanBuffer (view : Columns) (slots visited : ℕ) (b : Buffer) : Type 0 where
  pub columns : b.columns ≡ view
  pub room : slots ≤ b.room
  pub rows : length b.rows ≤ visited

-- ---- a fetch

-- the scan once it has visited its next n slots, or all of these slots that remain
abbrev pub scan_after : (slots n : ℕ) → Scan → Scan
scan_after slots n scan = record scan { slot = min (scan.slot + n) slots }

-- what a fetch answers whose visit ended there at this phase; 2VNL 1997
abbrev pub answer_after : (versions slots phase : ℕ) → Scan → Fetched
answer_after versions slots phase scan =
    if is_stale versions scan.version phase then Expired scan.version phase
    else if nat_lt scan.slot slots then More else Done

-- where the scan goes on after such a fetch, if it does
abbrev pub scan_left : (versions slots phase : ℕ) → Scan → Option (ℕ × ℕ)
scan_left versions slots phase scan =
    if not (is_stale versions scan.version phase) && nat_lt scan.slot slots then Some (scan.view, scan.slot) else None

-- the session once a fetch of n of its scan's slots, of which there are so many, ended at this phase
abbrev pub session_fetched : (slots n phase : ℕ) → OpenSession → OpenSession
session_fetched slots n phase s = record s { scan = scan_left s.versions slots phase (scan_after slots n (scan_in s)) }

-- what such a fetch answers
abbrev pub answer_of : (slots n phase : ℕ) → OpenSession → Fetched
answer_of slots n phase s = answer_after s.versions slots phase (scan_after slots n (scan_in s))

-- A fetch of n slots that leads from session s to t at this phase is the visit of a run of the pipeline with these facts.
pub record IsVisit (f : Facts) (n phase : ℕ) (s t : OpenSession) (fetched : Fetched) : Type 0 where
  pub state : state_of t ≡ session_after_visit f phase (visited_scan f n (scan_in s))
  pub answer : fetched ≡ answer_after f.versions (slots_of f (scan_in s)) phase (visited_scan f n (scan_in s))
