-- Sources and views that were read make a setup and its workload.
use Rattle.std.proofs.Common.{◌≡◌, ◌⊎◌, inl, inr, ℕ, zero, suc, ◌<◌, ◌≤◌, ◌*◌, ◌&&◌, ◌==◌, nat_le, nat_lt, Bool, true, List, [], ◌∷◌, ◌++◌, length, map, get_or, slice_get, Option, Some, None, Ok, refl, sym, ap, ap₂, subst, ◌∙◌, arith, append-nil, eq-eqb, eqb-true, ltb-true}
use Rattle.std.specs.List.{list_all, AllByRecursion}
use Rattle.std.proofs.lemmas.Bool.{and_parts}
use Rattle.std.proofs.lemmas.Bool.Decides.{nat_tests}
use Rattle.std.proofs.lemmas.List.{length-map}
use Rattle.std.proofs.lemmas.Option.{slice_get-get_or}
use Rattle.serde_json.specs.Data.{Data}
use Rattle.serde_json.specs.Find.{as_number, as_u64}
use Rattle.whips_model.specs.declared.Kind.{Kind}
use Rattle.whips_model.specs.declared.Kind.TheVariants.{Number, Text as TextKind}
use Rattle.whips_model.specs.Tuples.{Codes, Columns}
use Rattle.whips_model.specs.Relation.{Table, IsTable, value_of}
use Rattle.whips_states.specs.States.{AreAllValid, AreSoundTables}
use Rattle.whips_view.specs.declared.error.ViewErr.TheVariants.{NoRelation}
use Rattle.whips_view.specs.ViewDefs.{View, view_of, is_within}
use Rattle.whips_view.specs.Refusals.{is_same_kind, limit_refusal, relation_refusal}
use Rattle.whips_setup.specs.declared.error.BatchErr.TheVariants.{Limit as WorkLimit}
use Rattle.whips_setup.specs.declared.error.SetupErr.TheVariants.{Limit, Slots}
use Rattle.whips_setup.specs.Setups.{SetupData, setup_of}
use Rattle.whips_setup.specs.Limits.{have_relations, are_same_kinds, are_same_places, are_same_columns, has_numbers_within, is_schema, is_initial, are_initial, is_source, is_over, are_bases, has_bases, are_sources_within, are_views_within, is_within_limits}
use Rattle.whips_setup.specs.Refusals.{slots_refusal, setup_refusal}
use Rattle.whips_setup.specs.Workloads.{is_list_within, is_work_within, lists_refusal, work_refusal, AreOwn}
use Rattle.whips_reading.specs.declared.place.Code.TheVariants.{Shape, Limit as LimitCode}
use Rattle.whips_reading.specs.declared.place.Member.TheVariants as member
use Rattle.whips_reading.specs.Json.{Text, only}
use Rattle.whips_reading.specs.Places.{Place, in_member}
use Rattle.whips_reading.specs.Reading.{there, number_within, within_or}
use Rattle.whips_relation_reading.specs.Relations.{RelationForm}
use Rattle.whips_update_reading.specs.Sources.{Sources, AreSources, sources_in}
use Rattle.whips_view_reading.specs.Views.{Basis, ViewForm, default_slots, homes_of, named_view, parts_in, view_in}
use Rattle.whips_script_laws.specs.Laws.{AreWithinLimits, IsViewOf, AreViewsOf}
use Rattle.whips_script_laws.proofs.Parts.{bound, there_is, member_or_read}
use Rattle.whips_script_laws.proofs.Appended.{none_before, test_passed, passes}
use Rattle.whips_script_laws.proofs.Columns.{base_at}
use Rattle.whips_script_laws.proofs.Viewed.{made, homes_read}
use Rattle.whips_script_laws.proofs.Related.{only_is, IsRowOf, IsGood, IsRelation}
use Rattle.whips_script_laws.proofs.Accepted.{lists_accepted}
use Rattle.whips_script_laws.proofs.Sourced.{tables_of, each_so, AreRead, sources_read}

abbrev schemas_of : List RelationForm → List Columns
schemas_of relations = map (λ r. r.table.columns) relations

-- ---- the same schema

kind_same : (k : Kind) → is_same_kind k k ≡ true
kind_same Number = refl
kind_same TextKind = refl

kinds_same : (ks : List Kind) → are_same_kinds ks ks ≡ true
kinds_same [] = refl
kinds_same (k ∷ ks) = ap₂ (λ a b. a && b) (kind_same k) (kinds_same ks)

places_same : (ps : List ℕ) → are_same_places ps ps ≡ true
places_same [] = refl
places_same (p ∷ ps) = ap₂ (λ a b. a && b) (eq-eqb p p refl) (places_same ps)

columns_same : (c : Columns) → are_same_columns c c ≡ true
columns_same c = ap₂ (λ a b. a && b) (kinds_same c.kinds) (places_same c.key)

-- ---- relations

numbers_within : (kinds : List Kind) (columns : Columns) (rows : List Codes) → columns.kinds ≡ kinds → AllByRecursion (IsRowOf columns) rows → list_all (has_numbers_within kinds) rows ≡ true
numbers_within kinds columns [] e h = refl
numbers_within kinds columns (t ∷ rows) e h = ap₂ (λ a b. a && b) (ap (λ ks. has_numbers_within ks t) (sym e) ∙ h.0.1) (numbers_within kinds columns rows e h.1)

few_rows : (n : ℕ) → n ≤ 4096 → nat_le n 4096 ≡ true
few_rows n h = grind (arith, nat_tests)

initial : (r : RelationForm) → IsRelation r → is_initial r.table.columns r.table ≡ true
initial r h = ap₂ (λ a b. a && b) (ap₂ (λ a b. a && b) (ap₂ (λ a b. a && b) h.schema (columns_same r.table.columns)) (few_rows (length r.table.rows) h.few)) (numbers_within r.table.columns.kinds r.table.columns r.table.rows refl h.good)

all_initial : (relations : List RelationForm) → AllByRecursion IsRelation relations → are_initial (schemas_of relations) (tables_of relations) ≡ true
all_initial [] h = refl
all_initial (r ∷ relations) h = ap₂ (λ a b. a && b) (initial r h.0) (all_initial relations h.1)

all_sound : (relations : List RelationForm) → AllByRecursion IsRelation relations → AreSoundTables (tables_of relations)
all_sound [] h = tt
all_sound (r ∷ relations) h =
    let table : IsTable r.table.columns r.table.rows = record { widths = each_so (IsRowOf r.table.columns) (λ t. length t ≡ length r.table.columns.kinds) (λ t k. k.0) r.table.rows h.0.good; keyed = h.0.keyed } in
    (table, all_sound relations h.1)

-- ---- sources

module _ (n : ℕ) (s : Sources) (low : nat_le 1 n ≡ true) (high : nat_le n 8 ≡ true) (h : AreRead n s) where
  within_limits : AreWithinLimits s
  within_limits =
      let homes = h.homes in
      let schemas = length-map s.relations (λ (r : RelationForm). r.table.columns) in
      let lengths : (length s.homes == length (schemas_of s.relations)) ≡ true = eq-eqb (length s.homes) (length (schemas_of s.relations)) (h.homes ∙ sym schemas) in
      ap₂ (λ a b. a && b) (ap₂ (λ a b. a && b) (ap₂ (λ a b. a && b) (ap₂ (λ a b. a && b)
      (ap (is_within 1 8) h.names ∙ ap₂ (λ a b. a && b) low high) lengths)
      (ap (λ k. list_all (λ home. nat_lt home k) s.homes) h.names ∙ h.below))
      (ap (λ k. have_relations k s.homes) h.names ∙ h.each))
      (all_initial s.relations h.relations)

  are_sources : AreSources s
  are_sources = record { homes = h.homes; tables = h.tables; few = subst (λ k. length s.relations ≤ 4 * k) (sym h.names) h.few }

  work_made : (setup : SetupData) → setup.sources ≡ length s.names → setup.homes ≡ s.homes → setup.initial ≡ tables_of s.relations → work_refusal setup s.transactions ≡ None
  work_made setup sources homes tables =
      let lists = eq-eqb (length s.transactions) setup.sources (h.lists ∙ sym h.names ∙ sym sources) in
      let initial = append-nil (tables_of s.relations) ∙ sym tables in
      let within = subst (λ db. list_all (is_list_within db) s.transactions ≡ true) initial (h.within []) in
      let own = subst (λ hs. AreOwn hs 0 s.transactions) (append-nil s.homes ∙ sym homes) (h.own []) in
      let valid = subst (λ db. AllByRecursion (AreAllValid db) s.transactions) initial (h.valid []) in
      passes (is_work_within setup s.transactions) WorkLimit (lists_refusal setup 0 s.transactions) (ap₂ (λ a b. a && b) lists within) (lists_accepted setup 0 s.transactions own valid)

pub sources_sound : (texts : List Text) (place : Place) (d : Data) (s : Sources) → sources_in texts place d ≡ Ok s → AreWithinLimits s × AreSources s × AreSoundTables (tables_of s.relations)
sources_sound texts place d s e =
    let r = sources_read texts place d s e in
    (within_limits r.0 s r.1 r.2 r.3, are_sources r.0 s r.1 r.2 r.3, all_sound s.relations r.3.relations)

pub workload_made : (texts : List Text) (place : Place) (d : Data) (s : Sources) (setup : SetupData) → sources_in texts place d ≡ Ok s → setup.sources ≡ length s.names → setup.homes ≡ s.homes → setup.initial ≡ tables_of s.relations → work_refusal setup s.transactions ≡ None
workload_made texts place d s setup e sources homes tables = let r = sources_read texts place d s e in work_made r.0 s r.1 r.2 r.3 setup sources homes tables

-- ---- views

over_at : (relations : List RelationForm) (n : ℕ) → n < length relations → is_over (base_at relations n) (slice_get (tables_of relations) n) ≡ true
over_at [] n lt = absurd (omega arith)
over_at (r ∷ relations) zero lt = columns_same r.table.columns
over_at (r ∷ relations) (suc n) lt = over_at relations n (omega arith)

bases_there : (homes : List ℕ) (relations : List RelationForm) → length homes ≡ length relations → (numbers : List ℕ) → relation_refusal (length relations) numbers ≡ None → are_bases homes (tables_of relations) numbers (homes_of homes numbers) (map (base_at relations) numbers) ≡ true
bases_there homes relations same [] e = refl
bases_there homes relations same (n ∷ numbers) e =
    let b = test_passed (nat_lt n (length relations)) (NoRelation n) (relation_refusal (length relations) numbers) e in
    let lt = ltb-true n (length relations) b.0 in
    let source = ap (is_source (get_or homes n 0)) (slice_get-get_or homes n 0 (omega (arith, same, lt))) ∙ eq-eqb (get_or homes n 0) (get_or homes n 0) refl in
    ap₂ (λ x y. x && y) (ap₂ (λ x y. x && y) source (over_at relations n lt)) (bases_there homes relations same numbers b.1)

slots_read : (basis : Basis) (taken : List Text) (place : Place) (d : Data) (form : ViewForm) → view_in basis taken place d ≡ Ok form → is_within 1 4096 form.slots ≡ true
slots_read basis taken place d form e =
    let name = bound (named_view taken place d) _ form e in
    let parts = bound (parts_in basis place d) _ form name.2 in
    let slots = bound (within_or default_slots member.Slots (number_within 1 4096) place d) _ form parts.2 in
    let view : ViewForm = record { name = name.0; parts = parts.0; slots = slots.0 } in
    let same : view ≡ form = cc in
    let within : is_within 1 4096 slots.0 ≡ true = elim (member_or_read member.Slots (number_within 1 4096) place d slots.0 default_slots slots.1) [
      | inl default ↦ subst (λ k. is_within 1 4096 k ≡ true) default refl
      | inr given ↦ number (in_member place member.Slots) given.0 slots.0 given.1
    ] in
    subst (λ (f : ViewForm). is_within 1 4096 f.slots ≡ true) same within
  where
    number : (place : Place) (d : Data) (n : ℕ) → number_within 1 4096 place d ≡ Ok n → is_within 1 4096 n ≡ true
    number place d n e =
        let b = bound (there (as_number d) Shape place) _ n e in
        only_is (λ k. nat_le 1 k && nat_le k 4096) (as_u64 b.0) n (there_is (only (λ k. nat_le 1 k && nat_le k 4096) (as_u64 b.0)) LimitCode place n b.2)

module _ (texts : List Text) (s : Sources) (same : length s.homes ≡ length s.relations) where
  view_fits : (view : View) (n : ℕ) → IsViewOf texts s view n → (has_bases s.homes (tables_of s.relations) view ≡ true) × (is_within 1 4096 n ≡ true)
  view_fits view n h =
      let basis : Basis = record { relations = s.relations; homes = s.homes; texts = texts } in
      let none = made basis h.taken h.place h.value h.form h.was_read in
      let later = none_before (limit_refusal h.form.parts) _ none in
      let there = none_before (relation_refusal (length (schemas_of s.relations)) h.form.parts.relations) _ later.1 in
      let count = length-map s.relations (λ (r : RelationForm). r.table.columns) in
      let below = subst (λ k. relation_refusal k h.form.parts.relations ≡ None) count there.0 in
      let homes = homes_read basis h.taken h.place h.value h.form h.was_read in
      let fits : has_bases s.homes (tables_of s.relations) (view_of (schemas_of s.relations) h.form.parts) ≡ true =
      ap (λ hs. are_bases s.homes (tables_of s.relations) h.form.parts.relations hs (map (base_at s.relations) h.form.parts.relations)) homes ∙ bases_there s.homes s.relations same h.form.parts.relations below in
      (subst (λ v. has_bases s.homes (tables_of s.relations) v ≡ true) (sym h.view_is) fits, subst (λ k. is_within 1 4096 k ≡ true) (sym h.slots_are) (slots_read basis h.taken h.place h.value h.form h.was_read))

  abbrev DoFit : List View → List ℕ → Type 0
  DoFit views slots = ((length slots == length views) ≡ true) × (list_all (is_within 1 4096) slots ≡ true) × (list_all (has_bases s.homes (tables_of s.relations)) views ≡ true) × ((x : ℕ) → slots_refusal x (tables_of s.relations) views slots ≡ None)

  views_fit : (views : List View) (slots : List ℕ) → AreViewsOf texts s views slots → DoFit views slots
  views_fit [] [] h = (refl, refl, refl, λ x. refl)
  views_fit [] (n ∷ slots) h = absurd h
  views_fit (v ∷ views) [] h = absurd h
  views_fit (v ∷ views) (n ∷ slots) h =
      let first = view_fits v n h.0 in
      let rest = views_fit views slots h.1 in (
        eq-eqb (suc (length slots)) (suc (length views)) (ap suc (eqb-true (length slots) (length views) rest.0)),
        ap₂ (λ a b. a && b) first.1 rest.1,
        ap₂ (λ a b. a && b) first.0 rest.2,
        λ x. passes (nat_le (length (value_of v.parts (tables_of s.relations))) n) (Slots x) (slots_refusal (suc x) (tables_of s.relations) views slots) h.0.suffice (rest.3 (suc x)),
      )

pub setup_made : (texts : List Text) (place : Place) (d : Data) (s : Sources) (views : List View) (slots : List ℕ) → sources_in texts place d ≡ Ok s → is_within 1 8 (length views) ≡ true → AreViewsOf texts s views slots → setup_refusal (schemas_of s.relations) (setup_of (length s.names) s.homes (tables_of s.relations) views slots) ≡ None
setup_made texts place d s views slots e some h =
    let r = sources_read texts place d s e in
    let fit = views_fit texts s r.3.homes views slots h in
    let setup = setup_of (length s.names) s.homes (tables_of s.relations) views slots in
    passes (is_within_limits (schemas_of s.relations) setup) Limit (slots_refusal 0 (tables_of s.relations) views slots)
    (ap₂ (λ a b. a && b) (within_limits r.0 s r.1 r.2 r.3) (ap₂ (λ a b. a && b) (ap₂ (λ a b. a && b) (ap₂ (λ a b. a && b) some fit.0) fit.1) fit.2))
    (fit.3 0)
