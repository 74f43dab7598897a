-- A setup and a workload of it are a valid script, of which each value of a view is a table of its columns.
use Rattle.std.proofs.Common.{◌≡◌, ℕ, zero, suc, ◌<◌, ◌≤◌, List, [], ◌∷◌, length, take, Some, sym, ap, subst, ◌∙◌, arith, ⊎_elim}
use Rattle.std.specs.Prelude.{slice_get, slice_index}
use Rattle.std.specs.Option.{option_and_then, unwrap_or}
use Rattle.std.specs.List.{AllByRecursion}
use Rattle.std.proofs.lemmas.Bool.{cases_lt}
use Rattle.std.proofs.lemmas.List.{length-map}
use Rattle.whips_lists.proofs.Members.{all_has}
use Rattle.whips_lists.specs.Lists.{map_with_place}
use Rattle.whips_lists.proofs.Options.{some_same}
use Rattle.whips_lists.proofs.ByPlace.{get_within, get_there}
use Rattle.whips_lists.proofs.Lists.{length_map_at}
use Rattle.whips_model.specs.Tuples.{Columns}
use Rattle.whips_model.specs.Relation.{Table, IsTable}
use Rattle.whips_choices.specs.KeyedViews.{KeyedView, IsKeyedView}
use Rattle.whips_rel.specs.Updates.{relation_of}
use Rattle.whips_states.specs.States.{Updates, all_applied, state_at, AreSoundTables}
use Rattle.whips_view.specs.ViewDefs.{View, keyed, row_columns, HasBases, IsWellFormed}
use Rattle.whips_view.proofs.Valued.{value_table}
use Rattle.whips_setup.specs.Refusals.{IsSetup}
use Rattle.whips_setup.specs.Workloads.{IsWorkload}
use Rattle.whips_steps.specs.Steps.{home}
use Rattle.whips_facts.specs.Values.{AreAtSources, Changes, IsValidScript}
use Rattle.whips_facts.specs.Scripts.{slotted_views, SlottedView, value_at, view_at, no_view, slotted, Script}
use Rattle.whips_source.specs.Sites.{AreOf}
use Rattle.whips_strobe.proofs.Replies.{all_get as each_at}
use Rattle.whips_value_laws.proofs.Tails.{state_sound}
use Rattle.whips_value_laws.proofs.Whole.{apart_from, past_the_end}
use Rattle.whips_stage_laws.proofs.Setups.{homes_below, view_there, own_at, setup_fits}
use Rattle.whips_contents_laws.proofs.Fitting.{bases_stay}

-- a source that changes a relation is its home
changed_home : (homes : List ℕ) (y r : ℕ) (ts : List Updates) → AreOf homes y ts → Changes ts r → slice_get homes r ≡ Some y
changed_home homes y r ts own c = subst (λ z. slice_get homes z ≡ Some y) c.4 (all_has (λ u. slice_get homes (relation_of u) ≡ Some y) c.0 (all_has (AllByRecursion (λ u. slice_get homes (relation_of u) ≡ Some y)) ts own c.0 c.2) c.1 c.3)

pub index_from : (xs : List ℕ) (i x : ℕ) → slice_get xs i ≡ Some x → slice_index xs i ≡ x
index_from [] i x e = absurd (cc)
index_from (y ∷ xs) zero x e = some_same y x e
index_from (y ∷ xs) (suc i) x e = index_from xs i x e

keyed_views : (slots : List ℕ) (k : ℕ) (views : List View) → AllByRecursion IsWellFormed views → AllByRecursion (λ (v : SlottedView). IsKeyedView v.view) (map_with_place (slotted slots) k views)
keyed_views slots k [] h = tt
keyed_views slots k (v ∷ views) h = (h.0.keyed, keyed_views slots (suc k) views h.1)

bases_at : (view : View) (db : List Table) (work : List (List Updates)) (cut : List ℕ) → HasBases view db → HasBases view (state_at db work cut)
bases_at view db [] cut h = h
bases_at view db (ts ∷ work) [] h = h
bases_at view db (ts ∷ work) (c ∷ cut) h = bases_at view (all_applied db (take c ts)) work cut (bases_stay view db (take c ts) h)

module _ (s : Script) (is : IsSetup s.setup) (works : IsWorkload s.setup s.work) where
  own : (y : ℕ) (ts : List Updates) → slice_get s.work y ≡ Some ts → AreOf s.setup.homes y ts
  own y ts e = own_at s.setup.homes 0 y y s.work ts (omega arith) works.own e

  pub valid_script : IsValidScript s
  valid_script = record {
    tables = is.tables;
    valid = works.valid;
    apart = λ y z ts us r a b c d. some_same y z (sym (changed_home s.setup.homes y r ts (own y ts a) c) ∙ changed_home s.setup.homes z r us (own z us b) d);
    views = keyed_views s.setup.slots 0 s.setup.views is.well_formed;
    sources = λ x part lt. at_sources x part lt;
    homes = λ x i r h a b y ts at c. home_is x i r h a b y ts at c;
  }
    where
      gone : (x : ℕ) → length s.setup.views ≤ x → view_at s x ≡ no_view
      gone x le = ap (λ o. unwrap_or (option_and_then (λ (v : SlottedView). Some v.view) o) no_view) (past_the_end (slotted_views s) x (omega (arith, le, length_map_at (slotted s.setup.slots) 0 s.setup.views)))

      at_sources : AreAtSources s
      at_sources x part lt = ⊎_elim
          (λ low. let view = get_there x s.setup.views low in let same = view_there s x view.0 view.1 in
          subst (λ v. home v part < length s.work) (sym same) (homes_below s is works x part view.0 view.1 (subst (λ (v : KeyedView). part < length v.keys) same lt)))
          (λ high. absurd (let none : part < length no_view.keys = subst (λ (v : KeyedView). part < length v.keys) (gone x high) lt in omega (arith, none)))
          (cases_lt x (length s.setup.views))

      home_is : (x i r h : ℕ) → slice_get (view_at s x).base.relations i ≡ Some r → slice_get (view_at s x).base.homes i ≡ Some h → (y : ℕ) (ts : List Updates) → slice_get s.work y ≡ Some ts → Changes ts r → y ≡ h
      home_is x i r h a b y ts at c = ⊎_elim here past (cases_lt x (length s.setup.views))
        where
          past : length s.setup.views ≤ x → y ≡ h
          past le = absurd (let none : slice_get no_view.base.relations i ≡ Some r = subst (λ (v : KeyedView). slice_get v.base.relations i ≡ Some r) (gone x le) a in cc)

          here : x < length s.setup.views → y ≡ h
          here lt =
              let view = get_there x s.setup.views lt in
              let well = each_at IsWellFormed s.setup.views x view.0 is.well_formed view.1 in
              let same = view_there s x view.0 view.1 in
              let ra : slice_get view.0.parts.relations i ≡ Some r = subst (λ (v : KeyedView). slice_get v.base.relations i ≡ Some r) same a in
              let hb : slice_get view.0.parts.homes i ≡ Some h = subst (λ (v : KeyedView). slice_get v.base.homes i ≡ Some h) same b in
              let at_home = ((setup_fits s is works).views x view.0 view.1).homes i (omega (arith, get_within i view.0.parts.relations r ra, well.bases, length-map view.0.bases (λ (c : Columns). c.key))) in
              let moved : slice_get s.setup.homes r ≡ Some h = subst (λ z. slice_get s.setup.homes z ≡ Some h) (index_from view.0.parts.relations i r ra) (at_home ∙ ap (λ z. Some z) (index_from view.0.parts.homes i h hb)) in
              some_same y h (sym (changed_home s.setup.homes y r ts (own y ts at) c) ∙ moved)

  pub sound_at : (cut : List ℕ) → AreSoundTables (state_at s.setup.initial s.work cut)
  sound_at cut = state_sound s.setup.initial s.work cut is.tables (apart_from s.work valid_script.apart) works.valid

  pub based_at : (x : ℕ) (view : View) (cut : List ℕ) → slice_get s.setup.views x ≡ Some view → HasBases view (state_at s.setup.initial s.work cut)
  based_at x view cut there = bases_at view s.setup.initial s.work cut (each_at (λ view. HasBases view s.setup.initial) s.setup.views x view is.bases there)

  pub tables_at : (x : ℕ) (view : View) (cut : List ℕ) → slice_get s.setup.views x ≡ Some view → IsTable (row_columns view) (value_at s (keyed view) cut)
  tables_at x view cut there = value_table (state_at s.setup.initial s.work cut) (sound_at cut) view (each_at IsWellFormed s.setup.views x view is.well_formed there) (based_at x view cut there)
