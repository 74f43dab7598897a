-- The pipeline with its sessions, and what each event of a plan does.
use Rattle.std.specs.Prelude.{ℕ, zero, suc, ◌/◌, Bool, true, false, ◌&&◌, nat_lt, List, [], ◌∷◌, ◌++◌, length, map, replicate, slice_get, Option, Some, None, is_some, if◌then◌else◌}
use Rattle.whips_lists.specs.Lists.{changed_at}
use Rattle.whips_flow.specs.Facts.{Facts, view_places}
use Rattle.whips_flow.specs.State.{Pipeline, start}
use Rattle.whips_flow.specs.Progress.{is_enabled, next, shortage_at, first_enabled}
use Rattle.whips_flow.specs.Work.{work}
use Rattle.whips_flow.specs.declared.event.Event.{Event}
use Rattle.whips_flow.specs.declared.event.Event.TheVariants.{Publish, SessionOpen, SessionScan, SessionFetch, SessionClose}
use Rattle.whips_runs.specs.Sessions.{Scan, Session, not_open, open_at, is_not_open, is_open, scan_of, with_new_scan, visited_scan, session_after_visit}
use Rattle.whips_runs.specs.Records.{RunRecord, skip, opened, full, final, final_rows, fetch_record, version_record}

-- a run up to some event; own
pub record World : Type 0 where
  pub pipeline : Pipeline
  pub sessions : List Session
  -- how many scans were begun
  pub scan_count : ℕ
  -- what was reported, oldest first
  pub records : List RunRecord
  -- whether a view had too few slots, which ended the run
  pub is_full : Bool

-- ---- one event

-- whether the event is enabled, of the pipeline or of a session: a scan is of a view that is there, and a fetch of a slot at least; own
abbrev pub is_allowed : Facts → World → Event → Bool
is_allowed f w (SessionOpen s) = is_not_open (slice_get w.sessions s)
is_allowed f w (SessionScan s x) = is_open (slice_get w.sessions s) && nat_lt x (length f.slots)
is_allowed f w (SessionFetch s n) = is_some (scan_of (slice_get w.sessions s)) && nat_lt 0 n
is_allowed f w (SessionClose s) = is_open (slice_get w.sessions s)
is_allowed f w e = is_enabled f w.pipeline e

abbrev pub with_record : RunRecord → World → World
with_record r w = record w { records = w.records ++ r ∷ [] }

abbrev pub with_session : ℕ → Session → World → World
with_session s t w = record w { sessions = changed_at s (λ _. t) w.sessions }

abbrev pub phase_of : World → ℕ
phase_of w = w.pipeline.writer.phase

-- the session opens at the version that is current then; 2VNL 1997
abbrev pub after_open : ℕ → World → World
after_open s w = with_record (opened s (phase_of w / 2) (phase_of w)) (with_session s (open_at (phase_of w / 2)) w)

abbrev pub after_scan : ℕ → ℕ → World → World
after_scan s x w = record w { sessions = changed_at s (with_new_scan x) w.sessions; scan_count = suc w.scan_count }

-- the session visits the next n slots of its scan
abbrev pub after_fetch : Facts → ℕ → ℕ → Option Scan → World → World
after_fetch f s n None w = w
after_fetch f s n (Some scan) w = let visited = visited_scan f n scan in
    with_record (fetch_record f (phase_of w) s visited) (with_session s (session_after_visit f (phase_of w) visited) w)

-- an event of the pipeline moves it, or ends the run where a view has too few slots for it
abbrev pub after_pipeline_event : Facts → Event → World → World
after_pipeline_event f e w = elim (shortage_at f w.pipeline e) [
  | Some shortage ↦ record w { records = w.records ++ full shortage ∷ []; is_full = true }
  | None ↦ record w { pipeline = next f w.pipeline e }
]

-- a published version is reported
abbrev pub after_publish_event : Facts → World → World
after_publish_event f w = let p = next f w.pipeline Publish in record w { pipeline = p; records = w.records ++ version_record f p ∷ [] }

-- the run after an event that is allowed; own
abbrev pub after_event : Facts → Event → World → World
after_event f (SessionOpen s) w = after_open s w
after_event f (SessionScan s x) w = after_scan s x w
after_event f (SessionFetch s n) w = after_fetch f s n (scan_of (slice_get w.sessions s)) w
after_event f (SessionClose s) w = with_session s not_open w
after_event f Publish w = after_publish_event f w
after_event f e w = after_pipeline_event f e w

-- the run after the event at this place of the plan, from 1: it is done or reported as skipped; own
abbrev pub after_turn : Facts → ℕ → Event → World → World
after_turn f place e w = if w.is_full then w else if is_allowed f w e then after_event f e w else with_record (skip place e) w

-- ---- from the start to the end

-- version 0 is reported, and no session is open
abbrev pub start_world : Facts → World
start_world f = let p = start f in record { pipeline = p; sessions = replicate f.sessions not_open; scan_count = 0; records = version_record f p ∷ []; is_full = false }

-- the run after the first enabled event of the pipeline again and again, at most n times; own
abbrev pub drained_world : ℕ → Facts → World → World
drained_world zero f w = w
drained_world (suc n) f w = elim (if w.is_full then None else first_enabled f w.pipeline) [
  | None ↦ w
  | Some e ↦ drained_world n f (after_event f e w)
]

abbrev pub with_final_records : Facts → World → World
with_final_records f w = if w.is_full then w else record w { records = w.records ++ final f.transactions ∷ map final_rows (view_places f) }

-- the run with its drain to the end, for which as many events as there is work are enough; own
abbrev pub finished_world : Facts → World → World
finished_world f w = with_final_records f (drained_world (work f w.pipeline) f w)

-- ---- a listed schedule

-- the run after the events of the plan, counted from this place
abbrev pub after_listed_plan : Facts → ℕ → List Event → World → World
after_listed_plan f place [] w = w
after_listed_plan f place (e ∷ es) w = after_listed_plan f (suc place) es (after_turn f place e w)

-- the records of a run of the listed events; own
abbrev pub listed_records : Facts → List Event → List RunRecord
listed_records f es = (finished_world f (after_listed_plan f 1 es (start_world f))).records
