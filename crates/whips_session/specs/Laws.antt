-- Laws on sessions.
use Rattle.std.specs.Prelude.{◌≡◌, ℕ, ◌+◌, ◌*◌, ◌≤◌, List, length, slice_get, Some, IsSome}
use Rattle.whips_flow.specs.Facts.{Facts}
use Rattle.whips_runs.specs.Sessions.{Scan, slots_of, visited_scan}
use Rattle.whips_runs.specs.World.{World, phase_of, with_record, with_session, after_event}
use Rattle.whips_flow.specs.declared.event.Event.TheVariants.{SessionFetch}
use Rattle.whips_runs.specs.Records.{RunRecord, more, read, expired, fetch_record}
use Rattle.whips_vnl.specs.Records.{Seen}
use Rattle.whips_store.specs.Reads.{Log, PhaseSays, RowSays}
use Rattle.whips_session.specs.declared.session.Fetched.{Fetched}
use Rattle.whips_session.specs.declared.session.Fetched.TheVariants.{More, Done, Expired}
use Rattle.whips_session.specs.Sessions.{OpenSession, scan_in, state_of, answer_after, IsVisit}
use Rattle.whips_session.specs.Reads.{FetchSays}

-- what a run reports of a session's fetch that visited the scan up to its slot, ended at this phase and gave this answer
abbrev pub record_of : (phase session : ℕ) → Scan → Fetched → RunRecord
record_of phase s scan More = more s scan.view scan.version phase scan.slot
record_of phase s scan Done = read s scan.view scan.version phase
record_of phase s scan (Expired v p) = expired s scan.view v p

-- The answers are those that a run of the pipeline reports.
abbrev pub FetchesAreReported : Type 0
FetchesAreReported = (f : Facts) (phase session : ℕ) (scan : Scan)
    → record_of phase session scan (answer_after f.versions (slots_of f scan) phase scan) ≡ fetch_record f phase session scan

-- The visit of a session is what its event does to a run that has the session.
abbrev pub FetchesAreEvents : Type 0
FetchesAreEvents = (f : Facts) (w : World) (session n : ℕ) (s t : OpenSession) (fetched : Fetched)
    → slice_get w.sessions session ≡ Some (state_of s) → IsSome s.scan → IsVisit f n (phase_of w) s t fetched
    → after_event f (SessionFetch session n) w ≡ with_record (record_of (phase_of w) session (visited_scan f n (scan_in s)) fetched) (with_session session (state_of t) w)

-- ---- how many loads

-- a row's entries are so many at most
abbrev pub RowLoads : {B : Type 0} → ℕ → RowSays B → Type 0
RowLoads {B} most says = (base : B) (log : Log) (at x i v : ℕ) (seen : Seen) (next : ℕ) → says base log at x i v seen next → next ≤ at + most

-- a phase has one entry at most
abbrev pub PhaseLoads : {B : Type 0} → PhaseSays B → Type 0
PhaseLoads {B} says = (base : B) (log : Log) (at phase next : ℕ) → says base log at phase next → next ≤ at + 1

-- Where a row has so many entries at most and a phase one, a fetch of k slots has at most k times as many and one more.
abbrev pub FetchLoads : {B : Type 0} → ℕ → PhaseSays B → RowSays B → Type 0
FetchLoads {B} most phase_says row_says = RowLoads most row_says → PhaseLoads phase_says → (base : B) (log : Log) (at x i v : ℕ) (seen : List Seen) (phase next : ℕ)
    → FetchSays phase_says row_says base log at x i v seen phase next → next ≤ at + length seen * most + 1
