-- Laws on what the reader of scripts accepts.
use Rattle.std.specs.Prelude.{◌≡◌, ℕ, nat_le, true, List, [], ◌∷◌, length, map, Ok, None}
use Rattle.serde_json.specs.Data.{Data}
use Rattle.whips_model.specs.Relation.{value_of}
use Rattle.whips_states.specs.States.{AreSoundTables}
use Rattle.whips_view.specs.ViewDefs.{View, view_of, is_within}
use Rattle.whips_view.specs.Refusals.{refusal_of}
use Rattle.whips_setup.specs.Setups.{SetupData, setup_of}
use Rattle.whips_setup.specs.Limits.{are_sources_within}
use Rattle.whips_setup.specs.Refusals.{setup_refusal}
use Rattle.whips_setup.specs.Workloads.{work_refusal}
use Rattle.whips_reading.specs.Json.{Text}
use Rattle.whips_reading.specs.Places.{Place}
use Rattle.whips_update_reading.specs.Sources.{Sources, AreSources, sources_in}
use Rattle.whips_view_reading.specs.Views.{Basis, ViewForm, view_in}

-- The parts of a view that was read make a view.
abbrev pub ViewsAreMade : Type 0
ViewsAreMade = (basis : Basis) (taken : List Text) (place : Place) (d : Data) (form : ViewForm)
    → view_in basis taken place d ≡ Ok form → refusal_of (map (λ r. r.table.columns) basis.relations) form.parts ≡ None

-- Sources that were read are within the limits of a setup: 1 to 8 of them with 1 to 4 relations each, each relation with 1 to 8 columns, a key that names none of them twice, and up to 4,096 rows with no number above the greatest.
abbrev pub AreWithinLimits : Sources → Type 0
AreWithinLimits sources = are_sources_within (length sources.names) sources.homes (map (λ r. r.table.columns) sources.relations) (map (λ r. r.table) sources.relations) ≡ true

-- Sources that were read are within the limits of a setup, each relation has its source and its state after the transactions, and its rows are of its width and in the order of its key.
abbrev pub SourcesAreSound : Type 0
SourcesAreSound = (texts : List Text) (place : Place) (d : Data) (sources : Sources)
    → sources_in texts place d ≡ Ok sources → AreWithinLimits sources × AreSources sources × AreSoundTables (map (λ r. r.table) sources.relations)

-- The transactions of sources that were read are a workload of each setup of these sources.
abbrev pub WorkloadsAreMade : Type 0
WorkloadsAreMade = (texts : List Text) (place : Place) (d : Data) (sources : Sources) (setup : SetupData)
    → sources_in texts place d ≡ Ok sources → setup.sources ≡ length sources.names → setup.homes ≡ sources.homes → setup.initial ≡ map (λ r. r.table) sources.relations → work_refusal setup sources.transactions ≡ None

-- A view and its slots that were read over these sources, where its value on the initial rows has no more rows than its slots.
pub record IsViewOf (texts : List Text) (sources : Sources) (view : View) (slots : ℕ) : Type 0 where
  pub taken : List Text
  pub place : Place
  pub value : Data
  pub form : ViewForm
  pub was_read : view_in (record { relations = sources.relations; homes = sources.homes; texts = texts }) taken place value ≡ Ok form
  pub view_is : view ≡ view_of (map (λ r. r.table.columns) sources.relations) form.parts
  pub slots_are : slots ≡ form.slots
  pub suffice : nat_le (length (value_of view.parts (map (λ r. r.table) sources.relations))) slots ≡ true

-- Each view with its slots is such a one.
abbrev pub AreViewsOf : List Text → Sources → List View → List ℕ → Type 0
AreViewsOf texts sources [] [] = Unit {0}
AreViewsOf texts sources [] (n ∷ slots) = ⊥
AreViewsOf texts sources (view ∷ views) [] = ⊥
AreViewsOf texts sources (view ∷ views) (n ∷ slots) = IsViewOf texts sources view n × AreViewsOf texts sources views slots

-- 1 to 8 views that were read over sources that were read make a setup with these sources.
abbrev pub SetupsAreMade : Type 0
SetupsAreMade = (texts : List Text) (place : Place) (d : Data) (sources : Sources) (views : List View) (slots : List ℕ)
    → sources_in texts place d ≡ Ok sources → is_within 1 8 (length views) ≡ true → AreViewsOf texts sources views slots
    → setup_refusal (map (λ r. r.table.columns) sources.relations) (setup_of (length sources.names) sources.homes (map (λ r. r.table) sources.relations) views slots) ≡ None
