-- What a run reports.
use Rattle.std.specs.Prelude.{ℕ, List, ◌/◌, if◌then◌else◌}
use Rattle.whips_flow.specs.Facts.{Facts, Shortage}
use Rattle.whips_flow.specs.State.{Pipeline}
use Rattle.whips_flow.specs.declared.event.Event.{Event}
use Rattle.whips_runs.specs.Sessions.{Scan, has_slots_left}
use Rattle.whips_flow.specs.Staleness.{is_stale}

-- one entry of the report. The rows of a read are not in it: they are the view's value at the cut of the version, and those of `final_rows` the view's value at the last cut; own
pub data RunRecord : Type 0 where
  -- a version, its cut, and the number of rows of each view
  version : (number : ℕ) (cut : List ℕ) (row_counts : List ℕ) → RunRecord
  -- an event of the plan that wasn't enabled, with its place there from 1
  skip : (place : ℕ) → Event → RunRecord
  opened : (session version phase : ℕ) → RunRecord
  -- a fetch after which slots remain: the slots visited since the scan began
  more : (session view version phase slots : ℕ) → RunRecord
  -- a fetch that ended the scan
  read : (session view version phase : ℕ) → RunRecord
  -- a fetch of a stale session
  expired : (session view version phase : ℕ) → RunRecord
  -- a view has too few slots, which ends the run
  full : Shortage → RunRecord
  -- the number of all transactions of each source
  final : (transactions : List ℕ) → RunRecord
  final_rows : (view : ℕ) → RunRecord

-- what a session's fetch reports that visited the scan up to its slot and ended at this phase; 2VNL 1997
abbrev pub fetch_record : Facts → (phase session : ℕ) → Scan → RunRecord
fetch_record f phase s scan =
    if is_stale f.versions scan.version phase then expired s scan.view scan.version phase
    else if has_slots_left f scan then more s scan.view scan.version phase scan.slot
    else read s scan.view scan.version phase

-- the current version, where no maintenance transaction is active
abbrev pub version_record : Facts → Pipeline → RunRecord
version_record f p = version (p.writer.phase / 2) p.writer.cut (f.row_counts p.writer.cut)
