-- The records of a run with their rows.
use Rattle.std.specs.Prelude.{ℕ, List, [], length, map, slice_index_or}
use Rattle.whips_model.specs.Tuples.{Codes}
use Rattle.whips_flow.specs.State.{version_cuts}
use Rattle.whips_flow.specs.declared.event.Event.{Event}
use Rattle.whips_runs.specs.Records.{RunRecord, read, final_rows}
use Rattle.whips_runs.specs.World.{World, start_world, finished_world, after_listed_plan}
use Rattle.whips_runs.specs.Picks.{after_picked_plan}
use Rattle.whips_setup.specs.declared.plan.Plan.{Plan}
use Rattle.whips_setup.specs.declared.plan.Plan.TheVariants.{Listed, Picked}
use Rattle.whips_facts.specs.Scripts.{Script, value_at, view_at}
use Rattle.whips_facts.specs.ScriptFacts.{facts_of}

-- a record and the rows that it reports, which only a read and a view at the end have
pub record Reported : Type 0 where
  pub entry : RunRecord
  pub rows : List Codes

-- a read has the view's value at the cut of its version, and the end that of all transactions; own
abbrev pub rows_of : Script → List (List ℕ) → RunRecord → List Codes
rows_of s cuts (read session x v phase) = value_at s (view_at s x) (slice_index_or cuts v [])
rows_of s cuts (final_rows x) = value_at s (view_at s x) (map length s.work)
rows_of s cuts _ = []

-- all records of a run, with their rows by the cuts of its versions; own
abbrev pub reported : Script → World → List Reported
reported s w = map (λ r. record { entry = r; rows = rows_of s (version_cuts w.pipeline) r }) w.records

-- the run of a script by a schedule, with its drain; own
abbrev pub run_of : Script → Plan → World
run_of s (Listed es) = finished_world (facts_of s) (after_listed_plan (facts_of s) 1 es (start_world (facts_of s)))
run_of s (Picked start steps) = finished_world (facts_of s) (after_picked_plan steps (facts_of s) start (start_world (facts_of s)))
