-- A core as its callers see it, and what its type keeps.
use Rattle.std.specs.Prelude.{◌≡◌, ◌≤◌, Bool, List, length}
use Rattle.whips_states.specs.States.{Updates}
use Rattle.whips_flow.specs.declared.event.Event.{Event}
use Rattle.whips_flow.specs.declared.event.Event.TheVariants.{Publish}
use Rattle.whips_flow.specs.Facts.{Facts}
use Rattle.whips_flow.specs.State.{start}
use Rattle.whips_flow.specs.Progress.{after, pipeline_events}
use Rattle.whips_lists.specs.Lists.{map_with_place}
use Rattle.whips_setup.specs.Setups.{SetupData}
use Rattle.whips_setup.specs.Refusals.{IsSetup}
use Rattle.whips_setup.specs.Workloads.{IsWorkload}
use Rattle.whips_facts.specs.Scripts.{Script}
use Rattle.whips_facts.specs.ScriptFacts.{facts_of}
use Rattle.whips_order.specs.Numbering.{Counts, counts_of}
use Rattle.whips_contents.specs.Contents.{LoadedSource, LoadedPipeline, new_loaded_source}
use Rattle.whips_core_laws.specs.Core.{loaded_after, Carries}
use Rattle.whips_core.specs.Groups.{events_of}
use Rattle.whips_core.specs.declared.order.EventGroup.{EventGroup}
use Rattle.whips_core.specs.declared.cores.CoreStep.{CoreStep}
use Rattle.whips_core.specs.declared.cores.CoreStep.TheVariants.{Did, Published}

-- A core: its setup, the pipeline with its contents, and whether it is stopped for want of memory.
pub record CoreData : Type 0 where
  pub setup : SetupData
  pub loaded : LoadedPipeline
  pub stopped : Bool

-- The script of a setup and a workload, without reader sessions.
abbrev pub script_with : SetupData → List (List Updates) → Script
script_with s work = record { setup = s; work = work; sessions = 0 }

-- The sources are those of some workload of the setup before the first event, with empty queues.
pub record AreFresh (s : SetupData) (sources : List LoadedSource) : Type 0 where
  pub work : List (List Updates)
  pub is_work : IsWorkload s work
  pub are : sources ≡ map_with_place (new_loaded_source s) 0 work

-- The pipeline is that of a valid setup and some workload of it after some events.
pub record IsCarried (s : SetupData) (l : LoadedPipeline) : Type 0 where
  pub valid : IsSetup s
  pub work : List (List Updates)
  pub is_work : IsWorkload s work
  pub events : List Event
  pub is : l ≡ loaded_after (script_with s work) events

-- The pipeline is that of the setup and some workload of it after some events, of which the theorem of the core holds.
pub record IsRun (s : SetupData) (l : LoadedPipeline) : Type 0 where
  pub work : List (List Updates)
  pub is_work : IsWorkload s work
  pub events : List Event
  pub is : l ≡ loaded_after (script_with s work) events
  pub carries : Carries (script_with s work) l (after (facts_of (script_with s work)) (start (facts_of (script_with s work))) events)

-- The events of these groups are those of a pipeline with the setup's views and sources, in the order of the drain.
pub record AreInOrder (s : SetupData) (groups : List EventGroup) : Type 0 where
  pub are : (f : Facts) → length f.slots ≡ length s.views → length f.transactions ≡ s.sources → events_of groups ≡ pipeline_events f
  pub few : length groups ≤ 4096

-- What the type keeps of a core that isn't stopped: it carries some list of events, and its integrator has the counts of its numbering.
pub record IsCore (s : SetupData) (l : LoadedPipeline) (counts : Counts) : Type 0 where
  pub carried : IsCarried s l
  pub counted : counts ≡ counts_of s.sources l.numbering

-- What a step answers of an event that was done.
abbrev pub done_by : Event → CoreStep
done_by Publish = Published
done_by _ = Did
