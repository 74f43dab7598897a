-- Sessions of readers, and when their versions expire.
use Rattle.std.specs.Prelude.{ℕ, ◌+◌, min, Bool, true, false, ◌&&◌, not, nat_lt, slice_index, Option, Some, None, if◌then◌else◌}
use Rattle.whips_flow.specs.Facts.{Facts}
use Rattle.whips_flow.specs.Staleness.{is_stale}

-- a scan of a view at a version that has visited the slots before this one; own
pub record Scan : Type 0 where
  pub version : ℕ
  pub view : ℕ
  pub slot : ℕ

-- a session isn't open, or is open at a version, or is open with a scan that goes on; 2VNL 1997, with scans of its own
pub data Session : Type 0 where
  not_open : Session
  open_at : (version : ℕ) → Session
  scanning : Scan → Session

abbrev pub is_not_open : Option Session → Bool
is_not_open None = false
is_not_open (Some not_open) = true
is_not_open (Some (open_at v)) = false
is_not_open (Some (scanning scan)) = false

abbrev pub is_open : Option Session → Bool
is_open None = false
is_open (Some not_open) = false
is_open (Some (open_at v)) = true
is_open (Some (scanning scan)) = true

abbrev pub scan_of : Option Session → Option Scan
scan_of None = None
scan_of (Some not_open) = None
scan_of (Some (open_at v)) = None
scan_of (Some (scanning scan)) = Some scan

-- an open session begins a scan of view x at its first slot; an earlier scan is dropped
abbrev pub with_new_scan : ℕ → Session → Session
with_new_scan x not_open = not_open
with_new_scan x (open_at v) = scanning (record { version = v; view = x; slot = 0 })
with_new_scan x (scanning scan) = scanning (record { version = scan.version; view = x; slot = 0 })

abbrev pub slots_of : Facts → Scan → ℕ
slots_of f scan = slice_index f.slots scan.view

-- the scan after a visit of the next n slots, or of all that remain
abbrev pub visited_scan : Facts → ℕ → Scan → Scan
visited_scan f n scan = record scan { slot = min (scan.slot + n) (slots_of f scan) }

abbrev pub has_slots_left : Facts → Scan → Bool
has_slots_left f scan = nat_lt scan.slot (slots_of f scan)

-- the session after a visit that ended at this phase: the scan goes on where the session isn't stale and slots remain
abbrev pub session_after_visit : Facts → ℕ → Scan → Session
session_after_visit f phase scan = if not (is_stale f.versions scan.version phase) && has_slots_left f scan then scanning scan else open_at scan.version
