-- The pipeline of a setup before the first event, with the store at version 0.
use Rattle.std.proofs.Common.{◌≡◌, ℕ, zero, suc, List, [], ◌∷◌, length, map, Some, refl, sym, ap, subst, ◌∙◌, arith}
use Rattle.std.specs.Prelude.{slice_get, slice_index, slice_index_or, replicate}
use Rattle.std.proofs.lemmas.List.{length-replicate}
use Rattle.whips_lists.specs.Lists.{map_with_place}
use Rattle.whips_lists.proofs.Options.{some_same}
use Rattle.whips_lists.proofs.ByPlace.{get_in, in_copies}
use Rattle.whips_model.specs.Relation.{Table}
use Rattle.whips_view.specs.ViewDefs.{View, row_columns}
use Rattle.whips_actions.specs.declared.action.ActionList.{ActionList}
use Rattle.whips_setup.specs.Setups.{SetupData}
use Rattle.whips_setup.specs.Refusals.{IsSetup}
use Rattle.whips_setup.specs.Workloads.{IsWorkload}
use Rattle.whips_facts.specs.Scripts.{Script}
use Rattle.whips_merge.specs.Merging.{new_merge}
use Rattle.whips_store.specs.Stores.{ViewState, StoreState, no_view, view_in}
use Rattle.whips_store.specs.First.{view_at_first, views_at_first, store_at_first}
use Rattle.whips_faithful_laws.proofs.First.{none_left, first_many}
use Rattle.whips_contents.specs.Contents.{new_loaded_manager, start_loaded}
use Rattle.whips_contents.specs.Tokens.{tokens, manager_tokens}
use Rattle.whips_stage_laws.proofs.Setups.{sources_are, homes_below}
use Rattle.whips_token_laws.specs.Ties.{FitsStart}
use Rattle.whips_list_laws.specs.Merged.{IsFirstStore}
use Rattle.whips_line_laws.proofs.Coming.{coming_in}
use Rattle.whips_line_laws.proofs.Lines.{Line}
use Rattle.whips_line_laws.proofs.Moves.{Moved}

-- ---- the store

first_at : (db : List Table) (views : List View) (slots : List ℕ) (x : ℕ) (view : View) → length slots ≡ length views → slice_get views x ≡ Some view → slice_index_or (views_at_first db views slots) x no_view ≡ view_at_first db view (slice_index slots x)
first_at db [] slots x view long e = absurd (cc)
first_at db (v ∷ views) [] x view long e = absurd (omega (arith, long))
first_at db (v ∷ views) (n ∷ slots) zero view long e = ap (λ w. view_at_first db w n) (some_same v view e)
first_at db (v ∷ views) (n ∷ slots) (suc x) view long e = first_at db views slots x view (omega (arith, long)) e

first_level : (db : List Table) (views : List View) (slots : List ℕ) (x : ℕ) → (slice_index_or (views_at_first db views slots) x no_view).current ≡ (slice_index_or (views_at_first db views slots) x no_view).next
first_level db [] slots x = refl
first_level db (v ∷ views) [] x = refl
first_level db (v ∷ views) (n ∷ slots) zero = refl
first_level db (v ∷ views) (n ∷ slots) (suc x) = first_level db views slots x

pub first_store : (s : SetupData) → IsSetup s → IsFirstStore s (store_at_first s)
first_store s is = record {
  long = first_many s.initial s.views s.slots is.slots;
  rows = λ x view e. ap (λ (v : ViewState). v.next) (first_at s.initial s.views s.slots x view is.slots e);
  level = first_level s.initial s.views s.slots;
}

pub fits_start : (s : Script) → IsSetup s.setup → IsWorkload s.setup s.work → FitsStart s (store_at_first s.setup)
fits_start s is works = record {
  sources = sources_are s works;
  phase = refl;
  changes = none_left s.setup.initial s.setup.views s.setup.slots;
  homes = homes_below s is works;
}

-- ---- all of it

start_coming : (k x : ℕ) (views : List View) → coming_in (map manager_tokens (map_with_place new_loaded_manager k views)) x ≡ []
start_coming k x [] = refl
start_coming k zero (v ∷ views) = refl
start_coming k (suc x) (v ∷ views) = start_coming (suc k) x views

first_line : (x : ℕ) (ls : List ActionList) (js coming : List ℕ) → ls ≡ [] → js ≡ [] → coming ≡ [] → Line x 0 [] [] ls js coming
first_line x ls js coming a b c = subst (λ z. Line x 0 [] [] z js coming) (sym a) (subst (λ z. Line x 0 [] [] [] z coming) (sym b) (subst (λ z. Line x 0 [] [] [] [] z) (sym c) (record {
  painted = [];
  waiting = [];
  split = refl;
  numbers = refl;
  own = λ l i. absurd i;
  low = λ n i. absurd i;
  rising = tt;
  reds = λ l i. absurd i;
  whites = λ n i. absurd i;
  back = λ r j i e. i;
})))

pub start_moved : (s : Script) (store : StoreState) → Moved (tokens (length s.setup.views) (start_loaded s.setup s.work store)) (new_merge s.setup) (λ x. 0) []
start_moved s store = record {
  lined = record {
    long = length-replicate {A = List ActionList} (length s.setup.views) [] ∙ sym (length-replicate {A = List ℕ} (length s.setup.views) []);
    at = λ x ls js a b. first_line x ls js (coming_in (map manager_tokens (map_with_place new_loaded_manager 0 s.setup.views)) x) (sym (in_copies (length s.setup.views) [] ls (get_in x (replicate (length s.setup.views) []) ls a))) (sym (in_copies (length s.setup.views) [] js (get_in x (replicate (length s.setup.views) []) js b))) (start_coming 0 x s.setup.views);
  };
  begun = [];
  sets_are = refl;
  ties = λ x lt. tt;
  numbers_are = λ x lt. refl;
}

pub first_columns : (s : SetupData) → IsSetup s → (x : ℕ) (view : View) → slice_get s.views x ≡ Some view → (view_in (store_at_first s) x).columns ≡ row_columns view
first_columns s is x view e = ap (λ (v : ViewState). v.columns) (first_at s.initial s.views s.slots x view is.slots e)
