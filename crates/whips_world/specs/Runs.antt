-- A run: where it is, and how it ends.
use Rattle.std.specs.Prelude.{◌≡◌, ℕ, Bool, true, false, List, [], ◌++◌, length, map, None}
use Rattle.whips_flow.specs.Facts.{Facts}
use Rattle.whips_flow.specs.State.{start}
use Rattle.whips_flow.specs.Progress.{after, first_enabled}
use Rattle.whips_flow.specs.declared.event.Event.{Event}
use Rattle.whips_runs.specs.World.{World, start_world, after_event, after_listed_plan, finished_world, with_final_records}
use Rattle.whips_runs.specs.Picks.{after_picked_plan}
use Rattle.whips_facts.specs.Scripts.{Script}
use Rattle.whips_facts.specs.ScriptFacts.{facts_of}
use Rattle.whips_setup.specs.declared.plan.Plan.{Plan}
use Rattle.whips_setup.specs.declared.plan.Plan.TheVariants.{Listed, Picked}
use Rattle.whips_reports.specs.Reported.{Reported, reported, run_of}
use Rattle.whips_report.specs.Told.{Telling}
use Rattle.whips_states.specs.States.{Updates}
use Rattle.whips_setup.specs.Setups.{SetupData}
use Rattle.whips_setup.specs.Refusals.{IsSetup}
use Rattle.whips_setup.specs.Workloads.{IsWorkload}
use Rattle.whips_headline_laws.proofs.Told.{Told}
use Rattle.whips_store.specs.Stores.{StoreState}
use Rattle.whips_contents.specs.Contents.{LoadedSource, LoadedPipeline}
use Rattle.whips_core_laws.specs.Core.{Carries, loaded_after}
use Rattle.whips_core.specs.Cores.{CoreData}
use Rattle.whips_world.specs.Readers.{ReaderData, AreReaders}

-- The first elements of the list, and no more.
abbrev pub IsFirstPart : {A : Type 0} → List A → List A → Type 0
IsFirstPart {A} xs ys = (rest : List A) × (ys ≡ xs ++ rest)

-- The script of a run, its plan, and the sink as it was at the start.
pub record Start (K : Type 0) : Type 0 where
  pub script : Script
  pub plan : Plan
  pub sink : K

-- The script of a setup and a workload, with so many reader sessions.
abbrev pub scheduled : SetupData → List (List Updates) → ℕ → Script
scheduled setup work sessions = record { setup = setup; work = work; sessions = sessions }

-- The run to its end.
abbrev pub whole : {K : Type 0} → Start K → World
whole a = run_of a.script a.plan

-- The core is where the run is: it carries the script's pipeline after some events, the run's pipeline is the machine's after the same, and the sink was told the report of the run up to here.
pub record IsAt {K : Type 0} (told : Telling K) (a : Start K) (c : CoreData) (k : K) (w : World) : Type 0 where
  pub valid : IsSetup a.script.setup
  pub is_work : IsWorkload a.script.setup a.script.work
  pub setup : c.setup ≡ a.script.setup
  pub events : List Event
  pub loaded : c.loaded ≡ loaded_after a.script events
  pub pipeline : w.pipeline ≡ after (facts_of a.script) (start (facts_of a.script)) events
  pub kept : Told (facts_of a.script) w
  pub reports : told a.sink k (reported a.script w)

-- Some run that isn't full is where the core is, and ends as the whole one does once it has drained.
pub record IsOnWay {K : Type 0} (told : Telling K) (a : Start K) (c : CoreData) (k : K) : Type 0 where
  pub run : World
  pub at : IsAt told a c k run
  pub goes_on : run.is_full ≡ false
  pub ends : finished_world (facts_of a.script) run ≡ whole a

-- The run has drained: it is full, or no event is enabled, and but for the records at the end it is the whole one.
pub record IsDrained {K : Type 0} (told : Telling K) (a : Start K) (c : CoreData) (k : K) (is_full : Bool) : Type 0 where
  pub run : World
  pub at : IsAt told a c k run
  pub full : run.is_full ≡ is_full
  pub ends : with_final_records (facts_of a.script) run ≡ whole a
  pub rests : is_full ≡ false → first_enabled (facts_of a.script) run.pipeline ≡ None

-- Where the code of a run is: its core, its readers, and the sink.
pub record Moment (K : Type 0) : Type 0 where
  pub core : CoreData
  pub readers : List ReaderData
  pub sink : K

-- What is left of a plan: these events, the first of them at this place, or so many turns of a picker in this state, after so many scans.
pub data Left : Type 0 where
  events_left : (place : ℕ) → List Event → Left
  turns_left : (steps state scans : ℕ) → Left

-- What is left of a plan before its first event.
abbrev pub all_left : Plan → Left
all_left (Listed es) = events_left 1 es
all_left (Picked start steps) = turns_left steps start 0

-- The run after what is left.
abbrev pub after_left : Facts → Left → World → World
after_left f (events_left place es) w = after_listed_plan f place es w
after_left f (turns_left steps state scans) w = after_picked_plan steps f state w

-- The run has begun as many scans as were counted, where a picker needs to know.
abbrev pub HasCounted : Left → World → Type 0
HasCounted (events_left place es) w = Unit {0}
HasCounted (turns_left steps state scans) w = w.scan_count ≡ scans

-- Some run that isn't full is where the core is, its sessions are those of the readers, and it ends as the whole one does once it has done what is left, and has drained.
pub record IsOnPlan {K : Type 0} (told : Telling K) (a : Start K) (m : Moment K) (left : Left) : Type 0 where
  pub run : World
  pub at : IsAt told a m.core m.sink run
  pub readers : AreReaders m.core.loaded.store m.readers run.sessions
  pub goes_on : run.is_full ≡ false
  pub counted : HasCounted left run
  pub ends : finished_world (facts_of a.script) (after_left (facts_of a.script) left run) ≡ whole a

-- The same, where the event comes before what is left.
pub record IsDue {K : Type 0} (told : Telling K) (a : Start K) (m : Moment K) (e : Event) (left : Left) : Type 0 where
  pub run : World
  pub at : IsAt told a m.core m.sink run
  pub readers : AreReaders m.core.loaded.store m.readers run.sessions
  pub goes_on : run.is_full ≡ false
  pub counted : HasCounted left (after_event (facts_of a.script) e run)
  pub ends : finished_world (facts_of a.script) (after_left (facts_of a.script) left (after_event (facts_of a.script) e run)) ≡ whole a

-- The run has had a turn of its plan: a view was full for its event, or this is left.
abbrev pub IsTurned : {K : Type 0} → Telling K → Start K → Moment K → Left → Bool → Type 0
IsTurned told a m left true = IsDrained told a m.core m.sink true
IsTurned told a m left false = IsOnPlan told a m left

-- The run has done all of its plan, unless a view was full for one.
abbrev pub IsPlayed : {K : Type 0} → Telling K → Start K → CoreData → K → Bool → Type 0
IsPlayed told a c k true = IsDrained told a c k true
IsPlayed told a c k false = IsOnWay told a c k

-- The sink was told version 0 and no event is done, and these are the number of sessions and the plan.
pub record IsBegun {K : Type 0} (told : Telling K) (a : Start K) (c : CoreData) (k : K) (schedule : ℕ × Plan) : Type 0 where
  pub at : IsAt told a c k (start_world (facts_of a.script))
  pub sessions : schedule.0 ≡ a.script.sessions
  pub plan : schedule.1 ≡ a.plan

-- The sink was told a first part of the report.
abbrev pub TellsPart : {K : Type 0} → Telling K → Start K → K → Type 0
TellsPart told a k = (lines : List Reported) × IsFirstPart lines (reported a.script (whole a)) × told a.sink k lines

-- The sink was told the whole report, and the run ended full or not.
abbrev pub TellsWhole : {K : Type 0} → Telling K → Start K → K → Bool → Type 0
TellsWhole told a k is_full = told a.sink k (reported a.script (whole a)) × ((whole a).is_full ≡ is_full)

-- The core is that of a valid script before its first event, and these are the numbers of all its transactions.
pub record IsStart {K : Type 0} (a : Start K) (c : CoreData) (k : K) (transactions : List ℕ) : Type 0 where
  pub valid : IsSetup a.script.setup
  pub is_work : IsWorkload a.script.setup a.script.work
  pub setup : c.setup ≡ a.script.setup
  pub loaded : c.loaded ≡ loaded_after a.script []
  pub runs : c.stopped ≡ false
  pub counts : transactions ≡ map length a.script.work
  pub sink : k ≡ a.sink

-- The run of the script by this plan ended with these sources and this store: with the rest of a pipeline they are what the theorem of the core says of the machine's state at the run's end.
pub record EndsWith (script : Script) (plan : Plan) (sources : List LoadedSource) (store : StoreState) : Type 0 where
  pub loaded : LoadedPipeline
  pub sources_are : loaded.sources ≡ sources
  pub store_is : loaded.store ≡ store
  pub carries : Carries script loaded (run_of script plan).pipeline
