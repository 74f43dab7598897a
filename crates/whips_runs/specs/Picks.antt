-- Schedules that a picker makes.
use Rattle.std.specs.Prelude.{ℕ, zero, suc, Bool, true, false, ◌&&◌, not, nat_le, List, [], ◌∷◌, ◌++◌, length, map, filter, slice_get, Option, Some, None, if◌then◌else◌}
use Rattle.std.specs.List.{flat_map}
use Rattle.whips_lists.specs.Lists.{places_from}
use Rattle.whips_flow.specs.Facts.{Facts, view_places}
use Rattle.whips_flow.specs.Progress.{pipeline_events}
use Rattle.whips_flow.specs.declared.event.Event.{Event}
use Rattle.whips_flow.specs.declared.event.Event.TheVariants.{SessionOpen, SessionScan, SessionFetch, SessionClose}
use Rattle.whips_pick.specs.Picks.{next_state, picked}
use Rattle.whips_runs.specs.Records.{RunRecord}
use Rattle.whips_runs.specs.World.{World, is_allowed, after_event, start_world, finished_world}

-- ---- the choices of a turn

abbrev pub session_events : Facts → ℕ → List Event
session_events f s = (SessionOpen s ∷ map (SessionScan s) (view_places f)) ++ SessionFetch s 64 ∷ SessionClose s ∷ []

-- all events of a run in their order: those of the pipeline, then those of each session; own
abbrev pub all_events : Facts → List Event
all_events f = pipeline_events f ++ flat_map (session_events f) (places_from 0 f.sessions)

abbrev pub is_scan : Event → Bool
is_scan (SessionScan s x) = true
is_scan _ = false

-- the events that a turn may pick: the allowed ones, but no scan once 1,000 were begun; own
abbrev pub choices : Facts → World → List Event
choices f w = filter (λ e. is_allowed f w e && not (is_scan e && nat_le 1000 w.scan_count)) (all_events f)

abbrev pub picked_choice : ℕ → List Event → Option Event
picked_choice state es = slice_get es (picked (length es) state)

-- the event of a turn, by the picker's new state; none once the run is full or nothing may be picked
abbrev pub picked_event : Facts → ℕ → World → Option Event
picked_event f state w = if w.is_full then None else picked_choice state (choices f w)

-- ---- a picked schedule

-- the run after n turns, of which each moves the picker once; own
abbrev pub after_picked_plan : ℕ → Facts → ℕ → World → World
after_picked_plan zero f state w = w
after_picked_plan (suc n) f state w = elim (picked_event f (next_state state) w) [
  | None ↦ w
  | Some e ↦ after_picked_plan n f (next_state state) (after_event f e w)
]

-- the events of these turns
abbrev pub picked_events : ℕ → Facts → ℕ → World → List Event
picked_events zero f state w = []
picked_events (suc n) f state w = elim (picked_event f (next_state state) w) [
  | None ↦ []
  | Some e ↦ e ∷ picked_events n f (next_state state) (after_event f e w)
]

-- the records of a run whose picker begins at `start`; own
abbrev pub picked_records : Facts → (start steps : ℕ) → List RunRecord
picked_records f start steps = (finished_world f (after_picked_plan steps f start (start_world f))).records
