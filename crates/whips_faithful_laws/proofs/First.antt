-- A store at version 0 of a setup.
use Rattle.std.proofs.Common.{◌≡◌, inl, inr, ℕ, zero, suc, ◌+◌, ◌-◌, ◌/◌, ◌<◌, ◌≤◌, Bool, true, false, cond, leb, List, [], ◌∷◌, length, map, get_or, Option, Some, None, refl, ap, subst, ◌∙◌, arith}
use Rattle.std.specs.Prelude.{replicate}
use Rattle.std.specs.List.{sum_by, AllByRecursion}
use Rattle.std.proofs.lemmas.Bool.{and_parts, leb-true}
use Rattle.std.proofs.lemmas.Bool.Decides.{leb_tells}
use Rattle.std.proofs.lemmas.List.{length-append, length-map, length-replicate}
use Rattle.std.proofs.lemmas.List.Sums.{sum_by-cons}
use Rattle.whips_model.specs.Tuples.{Codes}
use Rattle.whips_model.specs.Relation.{Table, value_of}
use Rattle.whips_model.proofs.Keyed.{all_at}
use Rattle.whips_states.specs.States.{AreSoundTables}
use Rattle.whips_view.specs.ViewDefs.{View, IsWellFormed, HasBases, row_columns}
use Rattle.whips_view.proofs.Valued.{value_table}
use Rattle.whips_setup.specs.declared.error.SetupErr.{SetupErr}
use Rattle.whips_vnl.specs.declared.record.Vstep.{Vstep}
use Rattle.whips_store.specs.Versions.{rows_shown_at}
use Rattle.whips_store.specs.Stores.{ViewState, StoreState, no_view, view_in}
use Rattle.whips_store.specs.First.{first_steps, first_records, view_at_first, views_at_first, store_at_first}
use Rattle.whips_store.specs.Sound.{IsSoundView, IsSoundStore}
use Rattle.whips_store_laws.proofs.First.{first_is_sound}
use Rattle.whips_faithful_laws.specs.Faithful.{AreRowsOf, IsFaithful}
use Rattle.whips_faithful_laws.specs.Laws.{FirstStoreIsSound, FirstIsFaithful, blank_view, initial_values}
use Rattle.whips_faithful_laws.proofs.Numbers.{AreTablesWithin, value_within, setup_within}
use Rattle.whips_faithful_laws.proofs.Shown.{shows_current}

-- ---- the views at version 0

pub first_many : (db : List Table) (views : List View) (slots : List ℕ) → length slots ≡ length views → length (views_at_first db views slots) ≡ length views
first_many db [] slots e = refl
first_many db (v ∷ views) [] e = absurd (omega (arith, e))
first_many db (v ∷ views) (m ∷ slots) e = ap suc (first_many db views slots (omega (arith, e)))

pub none_left : (db : List Table) (views : List View) (slots : List ℕ) → sum_by (λ (v : ViewState). length v.left) (views_at_first db views slots) ≡ 0
none_left db [] slots = refl
none_left db (v ∷ views) [] = refl
none_left db (v ∷ views) (m ∷ slots) = let a = sum_by-cons (λ (v : ViewState). length v.left) (view_at_first db v m) (views_at_first db views slots) in omega (arith, a, none_left db views slots)

pub first_slots : (rows : List Codes) (spare : ℕ) → length (first_records rows spare) ≡ length rows + spare
first_slots rows spare =
    let none : List Vstep = [] in
    omega (arith, length-append (map first_steps rows) (replicate spare none), length-map rows first_steps, length-replicate spare none)

-- each view's rows are its value
pub first_rows : (db : List Table) (views : List View) (slots : List ℕ) (x : ℕ) → x < length (views_at_first db views slots)
    → ((get_or (views_at_first db views slots) x no_view).current ≡ value_of (get_or views x blank_view).parts db) × ((get_or (views_at_first db views slots) x no_view).next ≡ value_of (get_or views x blank_view).parts db)
first_rows db [] slots x lt = absurd (omega arith)
first_rows db (view ∷ views) [] x lt = absurd (omega arith)
first_rows db (view ∷ views) (n ∷ slots) zero lt = (refl, refl)
first_rows db (view ∷ views) (n ∷ slots) (suc x) lt = first_rows db views slots x (omega arith)

-- ---- no refusal

pub head_fits : (need have : ℕ) (rest : Option SetupErr) (e : SetupErr) → cond (leb need have) rest (Some e) ≡ None → (need ≤ have) × (rest ≡ None)
head_fits need have rest e h = elim (leb_tells need have) [
  | inl fits ↦ (fits.1, subst (λ b. cond b rest (Some e) ≡ None) fits.0 h)
  | inr short ↦ absurd (let bad : Some e ≡ None = subst (λ b. cond b rest (Some e) ≡ None) short.0 h in cc)
]

pub no_refusal : (b : Bool) (rest : Option SetupErr) (e : SetupErr) → cond b rest (Some e) ≡ None → rest ≡ None
no_refusal true rest e h = h
no_refusal false rest e h = absurd (cc)

-- ---- it is sound

views_sound : (db : List Table) (views : List View) (slots : List ℕ) (n : ℕ) → 2 ≤ n → AreSoundTables db → AreTablesWithin db → AllByRecursion IsWellFormed views → AllByRecursion (λ view. HasBases view db) views → AllByRecursion (IsSoundView n 0) (views_at_first db views slots)
views_sound db [] slots n two h within well has = tt
views_sound db (view ∷ views) [] n two h within well has = tt
views_sound db (view ∷ views) (k ∷ slots) n two h within well has = (
  first_is_sound n (row_columns view) (value_of view.parts db) (k - length (value_of view.parts db)) two (value_table db h view well.0 has.0) (value_within db within view well.0 has.0),
  views_sound db views slots n two h within well.1 has.1,
)

pub first_sound : FirstStoreIsSound
first_sound setup h =
    let both = and_parts (leb 2 setup.versions) (leb setup.versions 4) h.versions in
    let two = leb-true 2 setup.versions both.0 in record {
      least = two;
      most = leb-true setup.versions 4 both.1;
      views = views_sound setup.initial setup.views setup.slots setup.versions two h.tables (setup_within setup h) h.well_formed h.bases;
    }

-- ---- it is faithful

-- a sound store at phase 0 is faithful to its current rows, whatever the later versions have
pub start : (values : ℕ → ℕ → List Codes) (s : StoreState) → IsSoundStore s → s.phase ≡ 0
    → ((x : ℕ) → x < length s.views → ((view_in s x).current ≡ values x 0) × ((view_in s x).next ≡ values x 0)) → IsFaithful values s
start values s h none same x lt =
    let e = same x lt in
    let sound : IsSoundView s.versions s.phase (view_in s x) = all_at (IsSoundView s.versions s.phase) s.views x no_view h.views lt in
    let now : 0 ≡ s.phase / 2 = omega (arith, none) in
    record {
      shown = λ w l.
          let committed = l.committed in
          let same : s.phase / 2 ≡ w = omega (arith, none) in
          subst (λ u. AreRowsOf (view_in s x).columns.key (values x u) (rows_shown_at s.versions u (view_in s x).records)) same
          (subst (λ rows. AreRowsOf (view_in s x).columns.key rows (rows_shown_at s.versions (s.phase / 2) (view_in s x).records)) (e.0 ∙ ap (values x) now) (shows_current s.versions s.phase (view_in s x) sound));
      current = e.0 ∙ ap (values x) now;
      new = e.1 ∙ ap (values x) (let next : 0 ≡ (s.phase + 1) / 2 = omega (arith, none) in next);
      active = λ odd. absurd (omega (arith, none, odd));
    }

pub first : FirstIsFaithful
first setup h = start (initial_values setup) (store_at_first setup) (first_sound setup h) refl (λ x lt. first_rows setup.initial setup.views setup.slots x lt)
