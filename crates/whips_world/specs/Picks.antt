-- What a turn of a picker may pick.
use Rattle.std.specs.Prelude.{ℕ, Bool, true, false, nat_lt, List, [], ◌∷◌, ◌++◌, length, map, filter, slice_get, Option, Some, None}
use Rattle.std.specs.List.{flat_map}
use Rattle.whips_lists.specs.Lists.{places_from}
use Rattle.whips_flow.specs.Facts.{Facts}
use Rattle.whips_flow.specs.Progress.{pipeline_events}
use Rattle.whips_flow.specs.declared.event.Event.{Event}
use Rattle.whips_flow.specs.declared.event.Event.TheVariants.{SessionOpen, SessionScan, SessionFetch, SessionClose}
use Rattle.whips_runs.specs.Sessions.{Session, not_open, open_at, scanning}
use Rattle.whips_contents.specs.Events.{is_enabled_loaded}
use Rattle.whips_core.specs.Cores.{CoreData}
use Rattle.whips_world.specs.Readers.{ReaderData, session_of}

-- The scans that the session may begin, of so many views, if it may begin one.
abbrev pub scans_of : (may_scan : Bool) → (views session : ℕ) → List Event
scans_of false views s = []
scans_of true views s = map (SessionScan s) (places_from 0 views)

-- What it may pick of an open session behind its scans.
abbrev pub choices_behind : (is_scanning : Bool) → (session : ℕ) → List Event
choices_behind true s = SessionFetch s 64 ∷ SessionClose s ∷ []
choices_behind false s = SessionClose s ∷ []

-- What a turn may pick of the session with this number, by what it is.
abbrev pub session_choices : (may_scan : Bool) → (views session : ℕ) → Option Session → List Event
session_choices may_scan views s None = []
session_choices may_scan views s (Some not_open) = SessionOpen s ∷ []
session_choices may_scan views s (Some (open_at v)) = scans_of may_scan views s ++ choices_behind false s
session_choices may_scan views s (Some (scanning scan)) = scans_of may_scan views s ++ choices_behind true s

-- What a turn may pick, of the core and its readers and after so many scans: the events of the core that can be done, and then those of each session.
abbrev pub choices_here : Facts → CoreData → List ReaderData → (scans : ℕ) → List Event
choices_here f c readers scans =
    filter (is_enabled_loaded c.loaded) (pipeline_events f)
    ++ flat_map (λ s. session_choices (nat_lt scans 1000) (length c.setup.views) s (slice_get (map session_of readers) s)) (places_from 0 (length readers))
