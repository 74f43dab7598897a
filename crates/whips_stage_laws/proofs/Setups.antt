-- What a valid setup and workload are: their limits one by one, and that the contents fit.
use Rattle.std.proofs.Common.{◌≡◌, ℕ, zero, suc, ◌+◌, ◌<◌, ◌==◌, ◌&&◌, Bool, true, false, cond, List, [], ◌∷◌, length, Option, Some, None, slice_get, refl, ap, subst, arith, eqb-true, ◌≤◌}
use Rattle.std.specs.Prelude.{slice_index, nat_lt, nat_le}
use Rattle.std.specs.Option.{option_and_then, unwrap_or}
use Rattle.std.proofs.lemmas.Bool.Decides.{nat_tests}
use Rattle.std.specs.List.{list_all}
use Rattle.std.proofs.lemmas.Bool.{and_parts, ltb-true}
use Rattle.std.proofs.lemmas.List.{length-map}
use Rattle.whips_lists.proofs.Options.{some_same}
use Rattle.whips_lists.proofs.Lists.{length_map_at}
use Rattle.whips_lists.proofs.ByPlace.{get_mapped_at}
use Rattle.whips_model.specs.Tuples.{Columns}
use Rattle.whips_model.specs.Relation.{Table}
use Rattle.whips_states.specs.States.{Updates}
use Rattle.whips_view.specs.ViewDefs.{View, keyed, is_within, IsWellFormed}
use Rattle.whips_setup.specs.Setups.{columns_of}
use Rattle.whips_setup.specs.Limits.{is_source, is_over, are_bases, has_bases, have_relations, are_initial, are_sources_within, are_views_within, is_within_limits}
use Rattle.whips_setup.specs.Refusals.{slots_refusal, IsSetup}
use Rattle.whips_setup.specs.declared.error.SetupErr.{SetupErr}
use Rattle.whips_setup.specs.declared.error.SetupErr.TheVariants.{Limit}
use Rattle.whips_setup.specs.declared.error.BatchErr.{BatchErr}
use Rattle.whips_setup.specs.declared.error.BatchErr.TheVariants.{Limit as WorkLimit}
use Rattle.whips_setup.specs.Workloads.{AreOwn, IsWorkload, is_list_within, is_work_within, lists_refusal}
use Rattle.whips_steps.specs.Steps.{home}
use Rattle.whips_facts.specs.Scripts.{Script, SlottedView, slotted, slotted_views, view_at, no_view}
use Rattle.whips_source.specs.Sites.{AreOf}
use Rattle.whips_manager_trans_laws.proofs.Relations.{bases_are}
use Rattle.whips_strobe.proofs.Replies.{all_get as each_at}
use Rattle.whips_stage_laws.specs.Fits.{FitsWork}

pub all_at : {A : Type 0} (P : A → Bool) (xs : List A) (i : ℕ) (x : A) → list_all P xs ≡ true → slice_get xs i ≡ Some x → P x ≡ true
all_at P [] i x h e = absurd (cc)
all_at P (y ∷ xs) zero x h e = subst (λ z. P z ≡ true) (some_same y x e) (and_parts (P y) (list_all P xs) h).0
all_at P (y ∷ xs) (suc i) x h e = all_at P xs i x (and_parts (P y) (list_all P xs) h).1 e

source_is : (home : ℕ) (o : Option ℕ) → is_source home o ≡ true → o ≡ Some home
source_is home None h = absurd (cc)
source_is home (Some y) h = ap (λ n. Some n) (eqb-true y home h)

pub homes_are : (at : List ℕ) (db : List Table) (relations homes : List ℕ) (bases : List Columns) → are_bases at db relations homes bases ≡ true → (part : ℕ) → part < length bases → slice_get at (slice_index relations part) ≡ Some (slice_index homes part)
homes_are at db relations homes [] h part lt = absurd (omega (arith, lt))
homes_are at db [] homes (base ∷ bases) h part lt = absurd (cc)
homes_are at db (r ∷ relations) [] (base ∷ bases) h part lt = absurd (cc)
homes_are at db (r ∷ relations) (home ∷ homes) (base ∷ bases) h zero lt =
    let both = and_parts (is_source home (slice_get at r) && is_over base (slice_get db r)) (are_bases at db relations homes bases) h in
    source_is home (slice_get at r) (and_parts (is_source home (slice_get at r)) (is_over base (slice_get db r)) both.0).0
homes_are at db (r ∷ relations) (home ∷ homes) (base ∷ bases) h (suc part) lt =
    homes_are at db relations homes bases (and_parts (is_source home (slice_get at r) && is_over base (slice_get db r)) (are_bases at db relations homes bases) h).1 part (omega (arith, lt))

pub own_at : (homes : List ℕ) (k i y : ℕ) (work : List (List Updates)) (ts : List Updates) → y ≡ k + i → AreOwn homes k work → slice_get work i ≡ Some ts → AreOf homes y ts
own_at homes k i y [] ts e h g = absurd (cc)
own_at homes k zero y (us ∷ work) ts e h g = let same : k ≡ y = omega (arith, e) in subst (AreOf homes y) (some_same us ts g) (subst (λ n. AreOf homes n us) same h.0)
own_at homes k (suc i) y (us ∷ work) ts e h g = own_at homes (suc k) i y work ts (omega (arith, e)) h.1 g

-- ---- what the limits of a setup and a workload say

setup_passes : (b : Bool) (o : Option SetupErr) → cond b o (Some Limit) ≡ None → b ≡ true
setup_passes true o e = refl
setup_passes false o e = absurd (cc)

work_passes : (b : Bool) (o : Option BatchErr) → cond b o (Some WorkLimit) ≡ None → b ≡ true
work_passes true o e = refl
work_passes false o e = absurd (cc)

module _ (s : Script) (is : IsSetup s.setup) where
  sources_within : are_sources_within s.setup.sources s.setup.homes (columns_of s.setup) s.setup.initial ≡ true
  sources_within = (and_parts (are_sources_within s.setup.sources s.setup.homes (columns_of s.setup) s.setup.initial) (are_views_within s.setup.homes s.setup.initial s.setup.views s.setup.slots) (setup_passes (is_within_limits (columns_of s.setup) s.setup) (slots_refusal 0 s.setup.initial s.setup.views s.setup.slots) is.accepted)).0

  homes_counted : (is_within 1 8 s.setup.sources && (length s.setup.homes == length (columns_of s.setup)) && list_all (λ home. nat_lt home s.setup.sources) s.setup.homes) ≡ true
  homes_counted =
      let a = (and_parts (is_within 1 8 s.setup.sources && (length s.setup.homes == length (columns_of s.setup)) && list_all (λ home. nat_lt home s.setup.sources) s.setup.homes && have_relations s.setup.sources s.setup.homes) (are_initial (columns_of s.setup) s.setup.initial) sources_within).0 in
      (and_parts (is_within 1 8 s.setup.sources && (length s.setup.homes == length (columns_of s.setup)) && list_all (λ home. nat_lt home s.setup.sources) s.setup.homes) (have_relations s.setup.sources s.setup.homes) a).0

  pub homes_there : list_all (λ home. nat_lt home s.setup.sources) s.setup.homes ≡ true
  homes_there = (and_parts (is_within 1 8 s.setup.sources && (length s.setup.homes == length (columns_of s.setup))) (list_all (λ home. nat_lt home s.setup.sources) s.setup.homes) homes_counted).1

  pub sources_few : s.setup.sources ≤ 8
  sources_few =
      let few = (and_parts (is_within 1 8 s.setup.sources) (length s.setup.homes == length (columns_of s.setup)) (and_parts (is_within 1 8 s.setup.sources && (length s.setup.homes == length (columns_of s.setup))) (list_all (λ home. nat_lt home s.setup.sources) s.setup.homes) homes_counted).0).0 in
      let high = (and_parts (nat_le 1 s.setup.sources) (nat_le s.setup.sources 8) few).1 in
      grind (arith, nat_tests)

  pub views_over : list_all (has_bases s.setup.homes s.setup.initial) s.setup.views ≡ true
  views_over =
      let views = (and_parts (are_sources_within s.setup.sources s.setup.homes (columns_of s.setup) s.setup.initial) (are_views_within s.setup.homes s.setup.initial s.setup.views s.setup.slots) (setup_passes (is_within_limits (columns_of s.setup) s.setup) (slots_refusal 0 s.setup.initial s.setup.views s.setup.slots) is.accepted)).1 in
      (and_parts (is_within 1 8 (length s.setup.views) && (length s.setup.slots == length s.setup.views) && list_all (is_within 1 4096) s.setup.slots) (list_all (has_bases s.setup.homes s.setup.initial) s.setup.views) views).1

  -- a part of a view is at its home
  pub home_there : (x : ℕ) (view : View) → slice_get s.setup.views x ≡ Some view → (part : ℕ) → part < length (keyed view).keys → slice_get s.setup.homes (slice_index view.parts.relations part) ≡ Some (slice_index view.parts.homes part)
  home_there x view there part lt = homes_are s.setup.homes s.setup.initial view.parts.relations view.parts.homes view.bases (all_at (has_bases s.setup.homes s.setup.initial) s.setup.views x view views_over there) part (omega (arith, lt, length-map view.bases (λ (b : Columns). b.key)))

module _ (s : Script) (works : IsWorkload s.setup s.work) where
  work_within : is_work_within s.setup s.work ≡ true
  work_within = work_passes (is_work_within s.setup s.work) (lists_refusal s.setup 0 s.work) works.accepted

  pub sources_are : length s.work ≡ s.setup.sources
  sources_are = eqb-true (length s.work) s.setup.sources (and_parts (length s.work == s.setup.sources) (list_all (is_list_within s.setup.initial) s.work) work_within).0

  pub lists_within : list_all (is_list_within s.setup.initial) s.work ≡ true
  lists_within = (and_parts (length s.work == s.setup.sources) (list_all (is_list_within s.setup.initial) s.work) work_within).1

-- ---- the script

-- the view of a script at a place
pub view_there : (s : Script) (x : ℕ) (view : View) → slice_get s.setup.views x ≡ Some view → view_at s x ≡ keyed view
view_there s x view there = ap (λ o. unwrap_or (option_and_then (λ (v : SlottedView). Some v.view) o) no_view) (get_mapped_at (slotted s.setup.slots) 0 x x s.setup.views view (omega arith) there)

pub slotted_long : (s : Script) → length (slotted_views s) ≡ length s.setup.views
slotted_long s = length_map_at (slotted s.setup.slots) 0 s.setup.views

pub setup_fits : (s : Script) → IsSetup s.setup → IsWorkload s.setup s.work → FitsWork s
setup_fits s is works = record {
  views = λ x view e.
      let has = each_at _ s.setup.views x view is.bases e in
      record { view = (each_at IsWellFormed s.setup.views x view is.well_formed e).keyed; relations = bases_are view s.setup.initial is.tables has; homes = home_there s is x view e };
  transactions = λ y ts e. record { own = own_at s.setup.homes 0 y y s.work ts (omega arith) works.own e; valid = each_at _ s.work y ts works.valid e };
}

-- each relation of a view is at one of the sources, of which there are as many as lists of transactions
pub homes_below : (s : Script) → IsSetup s.setup → IsWorkload s.setup s.work → (x part : ℕ) (view : View) → slice_get s.setup.views x ≡ Some view → part < length (keyed view).keys → home (keyed view) part < length s.work
homes_below s is works x part view there lt = omega (arith, sources_are s works, ltb-true (slice_index view.parts.homes part) s.setup.sources (all_at (λ home. nat_lt home s.setup.sources) s.setup.homes (slice_index view.parts.relations part) (slice_index view.parts.homes part) (homes_there s is) (home_there s is x view there part lt)))
