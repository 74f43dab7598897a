-- What a script is, and which bytes are one.
use Rattle.std.specs.Prelude.{ℕ, List, [], length, is_none, Ok, ⊤}
use Rattle.serde_json.specs.Data.{Data}
use Rattle.whips_states.specs.States.{Updates}
use Rattle.whips_setup.specs.Setups.{SetupData, setup_of}
use Rattle.whips_setup.specs.Refusals.{setup_refusal}
use Rattle.whips_setup.specs.Workloads.{work_refusal}
use Rattle.whips_setup.specs.declared.plan.Plan.{Plan}
use Rattle.whips_facts.specs.Scripts.{Script, Labels}
use Rattle.whips_reading.specs.declared.json.ObjectForm.TheVariants.{Document}
use Rattle.whips_reading.specs.declared.place.Code.TheVariants.{Unbuilt}
use Rattle.whips_reading.specs.declared.place.Member.TheVariants as member
use Rattle.whips_reading.specs.Json.{Text}
use Rattle.whips_reading.specs.Places.{Place}
use Rattle.whips_reading.specs.Reading.{Read, ◌>>=◌, ◌>>◌, check, document, object, within, within_or, number_within}
use Rattle.whips_texts.specs.Dictionary.{texts_of}
use Rattle.whips_relation_reading.specs.Relations.{RelationForm}
use Rattle.whips_update_reading.specs.Sources.{Sources, sources_in}
use Rattle.whips_view_reading.specs.Views.{Basis}
use Rattle.whips_plan_reading.specs.Plans.{PlanForm, plan_in}
use Rattle.whips_script_reading.specs.Views.{Views, tables_of, schemas_of, views_in}

-- What is read: a script, the names and texts in it, its relations with their names and those of their columns, and its plan.
pub record NamedScript : Type 0 where
  pub script : Script
  pub labels : Labels
  pub relations : List RelationForm
  pub plan : Plan

-- How many versions stay readable, which are two where the script doesn't say.
abbrev pub default_versions : ℕ
default_versions = 2

-- What a document has: how many versions stay readable, its sources, its views, and its sessions with the plan.
pub record Parts : Type 0 where
  pub versions : ℕ
  pub sources : Sources
  pub views : Views
  pub plan : PlanForm

abbrev pub basis_of : List Text → Sources → Basis
basis_of texts sources = record { relations = sources.relations; homes = sources.homes; texts = texts }

-- The views over these sources.
abbrev pub views_of : List Text → Sources → Place → Data → Read Views
views_of texts sources place d = within member.Views (views_in (basis_of texts sources)) place d

abbrev pub sources_of : List Text → Place → Data → Read Sources
sources_of texts place d = within member.Sources (sources_in texts) place d

abbrev pub versions_in : Place → Data → Read ℕ
versions_in place d = within_or default_versions member.Versions (number_within 2 4) place d

-- The parts of a document, in this order; each is tried to its end before the next begins.
abbrev pub parts_in : List Text → Place → Data → Read Parts
parts_in texts place d = do
  object Document place d
  versions ← versions_in place d
  sources ← sources_of texts place d
  views ← views_of texts sources place d
  plan ← plan_in sources.names views.names place d
  Ok (record { versions = versions; sources = sources; views = views; plan = plan })

-- The setup of the sources with these views, of which this many versions stay readable. That one of a script is refused here is ruled out by what was read before.
abbrev pub setup_with : Sources → Views → SetupData
setup_with sources views = setup_of (length sources.names) sources.homes (tables_of sources.relations) views.views views.slots

abbrev pub setup_in : ℕ → Sources → Views → Place → Read SetupData
setup_in versions sources views place = do
  check (is_none (setup_refusal (schemas_of sources.relations) (setup_with sources views))) Unbuilt place
  Ok (record (setup_with sources views) { versions = versions })

-- The transactions are valid for the setup, which is ruled out to be otherwise in the same way.
abbrev pub work_is_valid : SetupData → List (List Updates) → Place → Read ⊤
work_is_valid setup work place = check (is_none (work_refusal setup work)) Unbuilt place

abbrev pub labels_of : (sources views sessions texts : List Text) → Labels
labels_of sources views sessions texts = record { sources = sources; views = views; sessions = sessions; texts = texts }

-- The script of this setup and these transactions, with a session for each name of one, with these named relations, and with this plan.
abbrev pub named_script : SetupData → List (List Updates) → Labels → List RelationForm → Plan → NamedScript
named_script setup work labels relations plan = record {
  script = record { setup = setup; work = work; sessions = length labels.sessions };
  labels = labels;
  relations = relations;
  plan = plan;
}

-- The script that the parts make with this setup and these texts.
abbrev pub script_with : List Text → Parts → SetupData → NamedScript
script_with texts parts setup = named_script setup parts.sources.transactions (labels_of parts.sources.names parts.views.names parts.plan.sessions texts) parts.sources.relations parts.plan.plan

abbrev pub script_of_parts : List Text → Place → Parts → Read NamedScript
script_of_parts texts place parts = do
  setup ← setup_in parts.versions parts.sources parts.views place
  work_is_valid setup parts.sources.transactions place
  Ok (script_with texts parts setup)

-- The script that a document is, or the refusal that comes first. Its texts are those at the places of values.
abbrev pub script_in : Place → Data → Read NamedScript
script_in place d = parts_in (texts_of d) place d >>= script_of_parts (texts_of d) place

-- What the bytes are: a script, or the refusal that comes first.
abbrev pub script_of : List ℕ → Read NamedScript
script_of bytes = document bytes >>= script_in []
