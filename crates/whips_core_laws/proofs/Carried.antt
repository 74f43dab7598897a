-- After every list of events.
use Rattle.std.proofs.Common.{◌≡◌, ℕ, zero, suc, ◌/◌, ◌%◌, true, is_some, List, [], ◌∷◌, ◌++◌, length, Some, refl, sym, ap, ap₂, subst, ◌∙◌, arith, eqb, eqb-true}
use Rattle.std.specs.Prelude.{slice_get, slice_index_or}
use Rattle.std.specs.Option.{option_map}
use Rattle.std.proofs.lemmas.Bool.{and_parts}
use Rattle.whips_lists.specs.Lists.{front}
use Rattle.whips_lists.proofs.Options.{some_of}
use Rattle.whips_lists.proofs.ByPlace.{get_within}
use Rattle.whips_flow.specs.Painted.{Row}
use Rattle.whips_flow.specs.Facts.{Facts}
use Rattle.whips_flow.specs.State.{Pipeline, start}
use Rattle.whips_flow.specs.Progress.{after, is_enabled, shortage_at}
use Rattle.whips_flow.specs.declared.event.Event.{Event}
use Rattle.whips_flow.specs.declared.event.Event.TheVariants.{Begin}
use Rattle.whips_settled_laws.proofs.Ends.{Sound, start_sound}
use Rattle.whips_view.specs.ViewDefs.{View, keyed}
use Rattle.whips_setup.specs.Refusals.{IsSetup}
use Rattle.whips_setup.specs.Workloads.{IsWorkload}
use Rattle.whips_facts.specs.Scripts.{value_at, Script}
use Rattle.whips_facts.specs.ScriptFacts.{facts_of}
use Rattle.whips_facts.specs.Values.{taken_sets}
use Rattle.whips_merge.specs.declared.lists.Transaction.{Transaction}
use Rattle.whips_store.specs.Stores.{view_in}
use Rattle.whips_store.specs.First.{store_at_first}
use Rattle.whips_store.specs.Calls.{AreNet}
use Rattle.whips_version_laws.proofs.Kept.{Kept, start_kept}
use Rattle.whips_faithful_laws.specs.Scans.{IsLater}
use Rattle.whips_faithful_laws.proofs.Scans.{later_itself, later_again}
use Rattle.whips_writer_laws.specs.Needs.{full_of}
use Rattle.whips_writer_laws.specs.Writers.{GoesWith}
use Rattle.whips_writer_laws.proofs.Writers.{first_goes}
use Rattle.whips_contents.specs.Contents.{LoadedPipeline, start_loaded}
use Rattle.whips_contents.specs.Events.{is_enabled_loaded, begin_refusal, step_loaded, after_loaded, changes_of_transaction}
use Rattle.whips_contents.specs.Tokens.{tokens}
use Rattle.whips_stage_laws.specs.Fits.{FitsWork}
use Rattle.whips_stage_laws.proofs.Setups.{setup_fits, view_there}
use Rattle.whips_contents_laws.proofs.Kept.{start_fits}
use Rattle.whips_token_laws.specs.Ties.{BeginsRight}
use Rattle.whips_token_laws.proofs.Tied.{start_projects, start_merge, enabled_same, full_same}
use Rattle.whips_list_laws.specs.Merged.{begun_numbers, step_numbers}
use Rattle.whips_list_laws.proofs.Merged.{start_merged}
use Rattle.whips_core_laws.proofs.Begun.{next_is, leads, refused}
use Rattle.whips_core_laws.proofs.Steps.{Carried, right, projects, step_goes, step_carried}
use Rattle.whips_core_laws.proofs.Valid.{valid_script, tables_at}
use Rattle.whips_core_laws.proofs.Numbers.{numbers_at}
use Rattle.whips_core_laws.proofs.Starts.{first_store, first_columns, fits_start, start_moved}
use Rattle.whips_core_laws.proofs.Calls.{fitting, calls_fit}
use Rattle.whips_core_laws.specs.Core.{loaded_after, Carries, CoreCarries, StoresGoOn}

at_end : {A : Type 0} (xs : List A) (a b d : A) (v : ℕ) → v ≡ length xs → slice_index_or (xs ++ a ∷ b ∷ []) v d ≡ a
at_end [] a b d zero e = refl
at_end [] a b d (suc v) e = absurd (omega (arith, e))
at_end (x ∷ xs) a b d zero e = absurd (omega (arith, e))
at_end (x ∷ xs) a b d (suc v) e = at_end xs a b d v (omega (arith, e))

module _ (s : Script) (is : IsSetup s.setup) (works : IsWorkload s.setup s.work) where
  abbrev f : Facts
  f = facts_of s

  abbrev fw : FitsWork s
  fw = setup_fits s is works

  abbrev Holds : LoadedPipeline → (ℕ → ℕ) → List (List Row) → Type 0
  Holds l numbers sets = Carried s (store_at_first s.setup) (setup_fits s is works) (fits_start s is works) (valid_script s is works) is.homes (tables_at s is works) (numbers_at s is works) l numbers sets

  starts : Holds (start_loaded s.setup s.work (store_at_first s.setup)) (λ x. 0) []
  starts =
      let fs = fits_start s is works in
      let back = sym (start_projects s (store_at_first s.setup) fw fs) in
      record {
        bare = start_fits s (store_at_first s.setup) fw;
        merged = start_merged s (store_at_first s.setup) fw (first_store s.setup is);
        merge = start_merge s (store_at_first s.setup) fw fs;
        order = tt;
        sound = subst (Sound f) back (start_sound f);
        kept = subst (λ p. Kept f p []) back (start_kept f);
        moved = start_moved s (store_at_first s.setup);
        columns = first_columns s.setup is;
        goes = subst (λ (p : Pipeline). GoesWith s p.writer (store_at_first s.setup)) back (first_goes s is);
      }

  runs : (es : List Event) (l : LoadedPipeline) (numbers : ℕ → ℕ) (sets : List (List Row)) → Holds l numbers sets → (all : List (List Row)) × Holds (after_loaded s.setup l es) (begun_numbers s.setup l es numbers) all × (tokens (length s.setup.views) (after_loaded s.setup l es) ≡ after (facts_of s) (tokens (length s.setup.views) l) es)
  runs [] l numbers sets h = (sets, h, refl)
  runs (e ∷ es) l numbers sets h =
      let one = step_carried s (store_at_first s.setup) (setup_fits s is works) (fits_start s is works) (valid_script s is works) is.homes (tables_at s is works) (numbers_at s is works) l numbers sets h e in
      let more = runs es (step_loaded s.setup l e) (step_numbers s.setup l e numbers) (sets ++ taken_sets f (tokens (length s.setup.views) l) e) one in (
        more.0,
        more.1,
        more.2 ∙ ap (λ p. after f p es) (projects s (store_at_first s.setup) (setup_fits s is works) (fits_start s is works) (valid_script s is works) is.homes (tables_at s is works) (numbers_at s is works) l numbers sets h e),
      )

  holds : (es : List Event) → (all : List (List Row)) × Holds (loaded_after s es) (begun_numbers s.setup (start_loaded s.setup s.work (store_at_first s.setup)) es (λ x. 0)) all × (tokens (length s.setup.views) (loaded_after s es) ≡ after (facts_of s) (start (facts_of s)) es)
  holds es =
      let r = runs es (start_loaded s.setup s.work (store_at_first s.setup)) (λ x. 0) [] starts in
      (r.0, r.1, r.2 ∙ ap (λ p. after f p es) (start_projects s (store_at_first s.setup) fw (fits_start s is works)))

  next_at : (es : List Event) (x : ℕ) (view : View) → slice_get s.setup.views x ≡ Some view → (view_in (loaded_after s es).store x).next ≡ value_at s (keyed view) (loaded_after s es).target_cut
  next_at es x view there =
      let r = holds es in
      next_is s (setup_fits s is works) (valid_script s is works) is.homes (tables_at s is works) (numbers_at s is works)
      (loaded_after s es) (begun_numbers s.setup (start_loaded s.setup s.work (store_at_first s.setup)) es (λ x. 0)) r.0 r.1.merged r.1.order r.1.merge r.1.kept r.1.moved r.1.columns r.1.goes x view there

  nets : (es : List Event) (t : Transaction) → front (loaded_after s es).merge.transactions ≡ Some t → (loaded_after s es).store.phase % 2 ≡ 0 → AreNet (loaded_after s es).store.views (changes_of_transaction s.setup (loaded_after s es).store t)
  nets es t first even =
      let r = holds es in
      (leads s fw (valid_script s is works) is.homes (tables_at s is works) (numbers_at s is works)
      (loaded_after s es) (begun_numbers s.setup (start_loaded s.setup s.work (store_at_first s.setup)) es (λ x. 0)) r.0 r.1.merged r.1.order r.1.merge r.1.kept r.1.moved r.1.columns r.1.goes t first even).net

  refuses : (es : List Event) → is_enabled_loaded (loaded_after s es) Begin ≡ true → begin_refusal s.setup (loaded_after s es) ≡ option_map full_of (shortage_at f (tokens (length s.setup.views) (loaded_after s es)) Begin)
  refuses es en =
      let r = holds es in
      let both = and_parts (is_some (front (loaded_after s es).merge.transactions)) (eqb ((loaded_after s es).store.phase % 2) 0) en in
      let t = some_of (front (loaded_after s es).merge.transactions) both.0 in
      refused s fw (valid_script s is works) is.homes (tables_at s is works) (numbers_at s is works)
      (loaded_after s es) (begun_numbers s.setup (start_loaded s.setup s.work (store_at_first s.setup)) es (λ x. 0)) r.0 r.1.merged r.1.order r.1.merge r.1.kept r.1.moved r.1.columns r.1.goes t.0 t.1 (eqb-true ((loaded_after s es).store.phase % 2) 0 both.1)

  right_at : (es : List Event) → BeginsRight s (loaded_after s es)
  right_at es =
      let r = holds es in
      right s (store_at_first s.setup) fw (fits_start s is works) (valid_script s is works) is.homes (tables_at s is works) (numbers_at s is works) (loaded_after s es) (begun_numbers s.setup (start_loaded s.setup s.work (store_at_first s.setup)) es (λ x. 0)) r.0 r.1

  pub carries : (es : List Event) → Carries s (loaded_after s es) (after f (start f) es)
  carries es =
      let r = holds es in
      record {
        tokens = r.2;
        enabled = λ e. enabled_same s (store_at_first s.setup) fw (fits_start s is works) (loaded_after s es) r.1.bare r.1.merge (right_at es) e ∙ ap (λ p. is_enabled f p e) r.2;
        full = λ e en. full_same s (store_at_first s.setup) fw (fits_start s is works) (loaded_after s es) r.1.bare r.1.merge (right_at es) e en ∙ ap (λ p. is_some (shortage_at f p e)) r.2;
        refused = λ en. refuses es en ∙ ap (λ p. option_map full_of (shortage_at f p Begin)) r.2;
        current = λ x view there. current r.1 x view there;
        next = next_at es;
        store = subst (λ (p : Pipeline). GoesWith s p.writer (loaded_after s es).store) r.2 r.1.goes;
        fits = fitting s is works es;
        calls = calls_fit s is works es r.1.merged.lists_long r.2 r.1.merged.store_long r.1.columns (nets es);
      }
    where
      current : {numbers : ℕ → ℕ} {sets : List (List Row)} → Holds (loaded_after s es) numbers sets → (x : ℕ) (view : View) → slice_get s.setup.views x ≡ Some view → (view_in (loaded_after s es).store x).current ≡ value_at s (keyed view) (loaded_after s es).cut
      current h x view there =
          (h.goes.faithful x (omega (arith, h.merged.store_long, get_within x s.setup.views view there))).current
          ∙ ap₂ (λ v c. value_at s v c) (view_there s x view there)
          (at_end (loaded_after s es).earlier_cuts (loaded_after s es).cut (loaded_after s es).target_cut [] ((loaded_after s es).store.phase / 2) (sym h.goes.cuts))

module _ (s : Script) (is : IsSetup s.setup) (works : IsWorkload s.setup s.work) where
  later : (more : List Event) (l : LoadedPipeline) (numbers : ℕ → ℕ) (sets : List (List Row)) → Holds s is works l numbers sets → IsLater l.store (after_loaded s.setup l more).store
  later [] l numbers sets h = later_itself l.store
  later (e ∷ more) l numbers sets h =
      let fw = setup_fits s is works in
      let fs = fits_start s is works in
      let valid = valid_script s is works in
      let one = step_goes s (store_at_first s.setup) fw fs valid is.homes (tables_at s is works) (numbers_at s is works) l numbers sets h e in
      let next = step_carried s (store_at_first s.setup) fw fs valid is.homes (tables_at s is works) (numbers_at s is works) l numbers sets h e in
      later_again l.store (step_loaded s.setup l e).store (after_loaded s.setup (step_loaded s.setup l e) more).store one.1 (later more (step_loaded s.setup l e) (step_numbers s.setup l e numbers) (sets ++ taken_sets (facts_of s) (tokens (length s.setup.views) l) e) next)

  joined_events : (es more : List Event) (l : LoadedPipeline) → after_loaded s.setup l (es ++ more) ≡ after_loaded s.setup (after_loaded s.setup l es) more
  joined_events [] more l = refl
  joined_events (e ∷ es) more l = joined_events es more (step_loaded s.setup l e)

  pub goes_on : (es more : List Event) → IsLater (loaded_after s es).store (loaded_after s (es ++ more)).store
  goes_on es more =
      let r = holds s is works es in
      subst (λ l. IsLater (loaded_after s es).store l.store) (sym (joined_events es more (start_loaded s.setup s.work (store_at_first s.setup)))) (later more (loaded_after s es) (begun_numbers s.setup (start_loaded s.setup s.work (store_at_first s.setup)) es (λ x. 0)) r.0 r.1)

pub core_carries : CoreCarries
core_carries s is works es = carries s is works es

pub stores_go_on : StoresGoOn
stores_go_on s is works es more = goes_on s is works es more
