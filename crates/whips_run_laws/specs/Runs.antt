-- Runs with sessions.
use Rattle.std.specs.Prelude.{◌≡◌, ℕ, ◌⊎◌, true, false, None}
use Rattle.whips_flow.specs.Facts.{Facts}
use Rattle.whips_flow.specs.Progress.{step, first_enabled}
use Rattle.whips_flow.specs.Work.{work}
use Rattle.whips_flow.specs.declared.event.Event.{Event}
use Rattle.whips_drain_laws.specs.Drain.{IsRoomy, HasAllManagers}
use Rattle.whips_runs.specs.World.{World, after_turn, drained_world}

-- a turn moves the pipeline by its event alone, whatever the sessions do; own
abbrev pub TurnsAreSteps : Type 0
TurnsAreSteps = (f : Facts) (place : ℕ) (e : Event) (w : World) → w.is_full ≡ false → (after_turn f place e w).pipeline ≡ step f w.pipeline e

-- a run ends full, or where no event of the pipeline is enabled; own
abbrev pub RunsEnd : Type 0
RunsEnd = (f : Facts) (w : World) → IsRoomy f → HasAllManagers f w.pipeline →
    ((drained_world (work f w.pipeline) f w).is_full ≡ true) ⊎ (first_enabled f (drained_world (work f w.pipeline) f w).pipeline ≡ None)
