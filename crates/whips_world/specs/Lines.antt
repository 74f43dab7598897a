-- What a run tells of its events, by the pipeline with its contents.
use Rattle.std.specs.Prelude.{ℕ, ◌/◌, List, [], ◌∷◌, length, map, Option, Some, None}
use Rattle.whips_lists.specs.Lists.{map_with_place}
use Rattle.whips_flow.specs.declared.event.Event.{Event}
use Rattle.whips_flow.specs.declared.event.Event.TheVariants.{Begin, Publish}
use Rattle.whips_runs.specs.Records.{version, full, final, final_rows}
use Rattle.whips_reports.specs.Reported.{Reported}
use Rattle.whips_report.specs.Recs.{alone}
use Rattle.whips_setup.specs.Setups.{SetupData}
use Rattle.whips_store.specs.Stores.{ViewState}
use Rattle.whips_store.specs.declared.error.StoreErr.{StoreErr}
use Rattle.whips_store.specs.declared.error.StoreErr.TheVariants.{Full, NoMemory}
use Rattle.whips_contents.specs.Contents.{LoadedPipeline}
use Rattle.whips_contents.specs.Events.{begin_refusal, next_loaded}

-- The current version, its cut, and the number of rows of each view.
abbrev pub version_line : LoadedPipeline → Reported
version_line l = alone (version (l.store.phase / 2) l.cut (map (λ v. length v.current) l.store.views))

-- What the store refused, which ends the run.
abbrev pub full_lines : StoreErr → List Reported
full_lines (Full view need have) = alone (full (record { view = view; need = need; slots = have })) ∷ []
full_lines NoMemory = []

-- What is told of an event that was done, of the pipeline after it.
abbrev pub done_lines : Event → LoadedPipeline → List Reported
done_lines Publish l = version_line l ∷ []
done_lines _ l = []

-- What the store refuses of the event, which is a begin.
abbrev pub refusal_for : SetupData → LoadedPipeline → Event → Option StoreErr
refusal_for s l Begin = begin_refusal s l
refusal_for s l _ = None

abbrev pub lines_unless : Option StoreErr → List Reported → List Reported
lines_unless None done = done
lines_unless (Some refusal) done = full_lines refusal

-- What is told of an event that can be done.
abbrev pub event_lines : SetupData → LoadedPipeline → Event → List Reported
event_lines s l e = lines_unless (refusal_for s l e) (done_lines e (next_loaded s l e))

-- A view at the end, with its rows.
abbrev pub view_line : ℕ → ViewState → Reported
view_line x v = record { entry = final_rows x; rows = v.current }

-- The end: the number of all transactions of each source, and each view.
abbrev pub end_lines : List ℕ → LoadedPipeline → List Reported
end_lines transactions l = alone (final transactions) ∷ map_with_place view_line 0 l.store.views
