-- How every run of a script ends.
use Rattle.std.specs.Prelude.{◌≡◌, ℕ, ◌⊎◌, true, List, None}
use Rattle.whips_flow.specs.Facts.{Facts}
use Rattle.whips_flow.specs.State.{Pipeline}
use Rattle.whips_flow.specs.Progress.{first_enabled}
use Rattle.whips_flow.specs.declared.event.Event.{Event}
use Rattle.whips_runs.specs.World.{World}
use Rattle.whips_facts.specs.Scripts.{Script}
use Rattle.whips_facts.specs.ScriptFacts.{facts_of}
use Rattle.whips_facts.specs.Values.{AreAtSources}
use Rattle.whips_cut_laws.specs.Cuts.{HasSoundCuts}
use Rattle.whips_settled_laws.specs.Settled.{IsSettled}
use Rattle.whips_run_laws.specs.Reached.{listed_run, picked_run}

-- no event of the pipeline is enabled, and so nothing is left on its way; own
pub record IsAtRest (f : Facts) (p : Pipeline) : Type 0 where
  pub none_enabled : first_enabled f p ≡ None
  pub settled : IsSettled f p

-- the cuts of the versions advance and none passes what was committed, and a view had too few slots or the pipeline is at rest; own
pub record EndsWell (s : Script) (w : World) : Type 0 where
  pub cuts : HasSoundCuts w.pipeline
  pub end : (w.is_full ≡ true) ⊎ IsAtRest (facts_of s) w.pipeline

-- of every script whose views are at its sources, and every list of events
abbrev pub ListedRunsEndWell : Type 0
ListedRunsEndWell = (s : Script) → AreAtSources s → (es : List Event) → EndsWell s (listed_run (facts_of s) es)

-- of every such script and every picked schedule
abbrev pub PickedRunsEndWell : Type 0
PickedRunsEndWell = (s : Script) → AreAtSources s → (start_number steps : ℕ) → EndsWell s (picked_run (facts_of s) start_number steps)
