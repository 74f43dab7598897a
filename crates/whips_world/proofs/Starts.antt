-- A core that was made of a fresh setup is where its run starts.
use Rattle.std.proofs.Common.{◌≡◌, ℕ, suc, false, List, [], ◌∷◌, length, refl, sym, ap, ap₂, subst, ◌∙◌}
use Rattle.std.specs.Prelude.{map}
use Rattle.whips_lists.specs.Lists.{map_with_place}
use Rattle.whips_states.specs.States.{Updates}
use Rattle.whips_setup.specs.Setups.{SetupData}
use Rattle.whips_setup.specs.Refusals.{IsSetup}
use Rattle.whips_setup.specs.declared.plan.Plan.{Plan}
use Rattle.whips_facts.specs.Scripts.{Script}
use Rattle.whips_store.specs.Stores.{StoreState}
use Rattle.whips_store.specs.First.{store_at_first}
use Rattle.whips_contents.specs.Contents.{LoadedSource, new_loaded_source}
use Rattle.whips_core.specs.Pipelines.{started}
use Rattle.whips_core.specs.Cores.{CoreData, AreFresh}
use Rattle.whips_world.specs.Runs.{scheduled, IsStart}

-- what each source of a workload has left is its transactions
left_of : (s : SetupData) (k : ℕ) (work : List (List Updates)) → map (λ (z : LoadedSource). z.site.left) (map_with_place (new_loaded_source s) k work) ≡ work
left_of s k [] = refl
left_of s k (ts ∷ work) = ap (λ l. ts ∷ l) (left_of s (suc k) work)

counts_left : (s : SetupData) (k : ℕ) (work : List (List Updates)) → map (λ (z : LoadedSource). length z.site.left) (map_with_place (new_loaded_source s) k work) ≡ map length work
counts_left s k [] = refl
counts_left s k (ts ∷ work) = ap (λ l. length ts ∷ l) (counts_left s (suc k) work)

abbrev pub script_left : CoreData → ℕ → Script
script_left c sessions = scheduled c.setup (map (λ (z : LoadedSource). z.site.left) c.loaded.sources) sessions

module _ (setup : SetupData) (sources : List LoadedSource) (store : StoreState) (c : CoreData) (made : c ≡ record { setup = setup; loaded = started setup sources store; stopped = false }) where
  -- the script of the core is that of the workload that its sources have
  pub script_is : (sessions : ℕ) (work : List (List Updates)) → sources ≡ map_with_place (new_loaded_source setup) 0 work → script_left c sessions ≡ scheduled setup work sessions
  script_is sessions work are = ap (λ d. script_left d sessions) made ∙ ap (λ w. scheduled setup w sessions) (ap (map (λ (z : LoadedSource). z.site.left)) are ∙ left_of setup 0 work)

  pub starts : {K : Type 0} (k : K) (ts : List ℕ) (schedule : ℕ × Plan) → IsSetup setup → AreFresh setup sources → store ≡ store_at_first setup → ts ≡ map (λ (z : LoadedSource). length z.site.left) sources
      → IsStart (record { script = script_left c schedule.0; plan = schedule.1; sink = k }) c k ts
  starts k ts schedule valid fresh first counts =
      subst (λ (s : Script). IsStart (record { script = s; plan = schedule.1; sink = k }) c k ts) (sym (script_is schedule.0 fresh.work fresh.are)) (record {
        valid = valid;
        is_work = fresh.is_work;
        setup = ap (λ (d : CoreData). d.setup) made;
        loaded = ap (λ (d : CoreData). d.loaded) made ∙ ap₂ (started setup) fresh.are first;
        runs = ap (λ (d : CoreData). d.stopped) made;
        counts = counts ∙ (ap (map (λ (z : LoadedSource). length z.site.left)) fresh.are ∙ counts_left setup 0 fresh.work);
        sink = refl;
      })
