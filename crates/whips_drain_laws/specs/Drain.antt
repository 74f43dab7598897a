-- A drained pipeline.
use Rattle.std.specs.Prelude.{◌≡◌, ℕ, ◌≤◌, ◌<◌, true, List, [], ◌∷◌, ◌++◌, length, sum, None}
use Rattle.whips_flow.specs.Facts.{Facts}
use Rattle.whips_flow.specs.State.{Pipeline}
use Rattle.whips_flow.specs.Progress.{is_done, next, drain, next_drain_event}
use Rattle.whips_flow.specs.Work.{work}
use Rattle.whips_flow.specs.declared.event.Event.{Event}

-- where no view has too few slots for some cuts, the last two of them differ in at most as many rows as there are slots; own
abbrev pub IsRoomy : Facts → Type 0
IsRoomy f = (older : List (List ℕ)) (before after : List ℕ) → f.shortage (older ++ before ∷ after ∷ []) ≡ None → f.change_count before after ≤ sum f.slots

-- there is one manager for each view
abbrev pub HasAllManagers : Facts → Pipeline → Type 0
HasAllManagers f p = length p.managers ≡ length f.slots

-- own
abbrev pub EventsLessenWork : Type 0
EventsLessenWork = (f : Facts) (p : Pipeline) (e : Event) → IsRoomy f → HasAllManagers f p → is_done f p e ≡ true → work f (next f p e) < work f p

-- at the end of the drain no event is enabled, or the first enabled one has too few slots; own
abbrev pub DrainEnds : Type 0
DrainEnds = (f : Facts) (p : Pipeline) (n : ℕ) → IsRoomy f → HasAllManagers f p → work f p ≤ n → next_drain_event f (drain n f p) ≡ None
