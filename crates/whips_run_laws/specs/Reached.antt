-- The pipeline of a run is one that events reach from the start.
use Rattle.std.specs.Prelude.{◌≡◌, ℕ, List}
use Rattle.whips_flow.specs.Facts.{Facts}
use Rattle.whips_flow.specs.State.{Pipeline, start}
use Rattle.whips_flow.specs.Progress.{after}
use Rattle.whips_flow.specs.declared.event.Event.{Event}
use Rattle.whips_runs.specs.World.{World, start_world, finished_world, after_listed_plan}
use Rattle.whips_runs.specs.Picks.{after_picked_plan}

-- some list of events leads from the start to the pipeline; own
pub record IsReached (f : Facts) (p : Pipeline) : Type 0 where
  pub events : List Event
  pub led : after f (start f) events ≡ p

-- the whole run of a listed schedule, with its drain
abbrev pub listed_run : Facts → List Event → World
listed_run f es = finished_world f (after_listed_plan f 1 es (start_world f))

-- the whole run of a picked schedule, with its drain
abbrev pub picked_run : Facts → ℕ → ℕ → World
picked_run f start_number steps = finished_world f (after_picked_plan steps f start_number (start_world f))

-- so that what holds after every list of events holds at the end of every run; own
abbrev pub ListedRunsAreReached : Type 0
ListedRunsAreReached = (f : Facts) (es : List Event) → IsReached f (listed_run f es).pipeline

abbrev pub PickedRunsAreReached : Type 0
PickedRunsAreReached = (f : Facts) (start_number steps : ℕ) → IsReached f (picked_run f start_number steps).pipeline
