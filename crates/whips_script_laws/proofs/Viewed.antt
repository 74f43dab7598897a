-- The parts of a view that was read make a view.
--
-- `made`: nothing refuses the parts. The reader tries each column by its name among the view's columns, which are there with the kinds that
-- it goes by (`Columns`, `Chosen`); relations by their names among all, none twice (`numbers_read`); and the keys as the view's making does
-- (`keys_out`).
use Rattle.std.proofs.Common.{◌≡◌, ℕ, zero, suc, ◌+◌, ◌<◌, ◌&&◌, ◌||◌, ◌==◌, nat_le, nat_lt, not, Bool, true, false, cond, List, [], ◌∷◌, ◌++◌, length, map, get_or, slice_get, option_map, Option, Some, None, Ok, refl, sym, ap, ap₂, subst, ◌∙◌, arith, inl, inr, lt-ltb, eq-eqb}
use Rattle.std.specs.Option.{option_or}
use Rattle.std.specs.List.{list_all, list_any}
use Rattle.std.specs.Str.{bytes_eq}
use Rattle.std.proofs.lemmas.Bool.{and_parts}
use Rattle.std.proofs.lemmas.List.{length-map}
use Rattle.serde_json.specs.Data.{Data}
use Rattle.whips_model.specs.declared.ColRef.{ColRef}
use Rattle.whips_model.specs.Tuples.{Columns}
use Rattle.whips_model.specs.Views.{ViewData}
use Rattle.whips_view.specs.declared.error.ViewErr.{ViewErr}
use Rattle.whips_view.specs.declared.error.ViewErr.TheVariants.{Limit, NoRelation, TwiceUsed, Kinds, KeyMissing}
use Rattle.whips_view.specs.ViewDefs.{View, view_of, no_columns, is_within, are_within}
use Rattle.whips_view.specs.Refusals.{limit_refusal, relation_refusal, twice_refusal, column_refusal, equality_columns, joins_one_kind, tests_own_kind, kinds_refusal, is_column, key_refusal_at, key_refusal, refusal_in, refusal_of}
use Rattle.whips_reading.specs.declared.place.Code.TheVariants.{Name, Key}
use Rattle.whips_reading.specs.declared.place.Member.TheVariants as member
use Rattle.whips_reading.specs.Json.{Text}
use Rattle.whips_reading.specs.Places.{Place, in_member}
use Rattle.whips_reading.specs.Reading.{number_within, within_or}
use Rattle.whips_reading.specs.Names.{place_of, text_in, named}
use Rattle.whips_relation_reading.specs.Relations.{RelationForm, relation_names}
use Rattle.whips_view_reading.specs.Columns.{view_columns}
use Rattle.whips_view_reading.specs.Choices.{Choice, choice_in}
use Rattle.whips_view_reading.specs.Views.{Basis, ViewForm, default_slots, relation_added, relations_in, homes_of, is_among_columns, key_of, are_keys_out, with_keys, keyed_choice, parts_with, named_view, numbers_in, parts_in, view_in}
use Rattle.whips_script_laws.proofs.Parts.{bound, tested, there_is, list_read, member_read}
use Rattle.whips_script_laws.proofs.Appended.{both_none, test_passed, passes, test_failed, fails, is_not, one_longer, other}
use Rattle.whips_script_laws.proofs.Columns.{base_at, view_fit}
use Rattle.whips_script_laws.proofs.Chosen.{IsChoice, choice_read}

-- ---- names

-- the place of a text among names is one of theirs
pub place_below : (names : List Text) (text : Text) (k : ℕ) → place_of names text ≡ Some k → k < length names
place_below [] text k e = absurd (cc)
place_below (name ∷ names) text k e = go (λ j h. place_below names text j h) (bytes_eq name text) (place_of names text) refl e
  where
    go : ((j : ℕ) → place_of names text ≡ Some j → j < length names) → (b : Bool) (o : Option ℕ) → place_of names text ≡ o → cond b (Some 0) (option_map suc o) ≡ Some k → k < suc (length names)
    go ih true o h f = let same : 0 ≡ k = cc in omega arith
    go ih false None h f = absurd (cc)
    go ih false (Some j) h f = let same : suc j ≡ k = cc in let lt = ih j h in omega arith

pub named_below : (names : List Text) (place : Place) (d : Data) (k : ℕ) → named names place d ≡ Ok k → k < length names
named_below names place d k e =
    let b = bound (text_in place d) _ k e in
    place_below names b.0 k (there_is (place_of names b.0) Name place k b.2)

-- ---- relations

-- all are below n, and none is there twice
abbrev Numbers : ℕ → ℕ → List ℕ → Type 0
Numbers count n numbers = (length numbers ≡ n) × (relation_refusal count numbers ≡ None) × (twice_refusal numbers ≡ None)

below_more : (count : ℕ) (numbers : List ℕ) (k : ℕ) → relation_refusal count numbers ≡ None → k < count → relation_refusal count (numbers ++ k ∷ []) ≡ None
below_more count [] k e lt = passes (nat_lt k count) (NoRelation k) None (lt-ltb k count lt) refl
below_more count (r ∷ numbers) k e lt =
    let b = test_passed (nat_lt r count) (NoRelation r) (relation_refusal count numbers) e in
    passes (nat_lt r count) (NoRelation r) (relation_refusal count (numbers ++ k ∷ [])) b.0 (below_more count numbers k b.1 lt)

once_more : (numbers : List ℕ) (k : ℕ) → twice_refusal numbers ≡ None → list_any (λ m. m == k) numbers ≡ false → twice_refusal (numbers ++ k ∷ []) ≡ None
once_more [] k e f = refl
once_more (r ∷ numbers) k e f = go (r == k) refl f (test_failed (list_any (λ s. s == r) numbers) (TwiceUsed r) (twice_refusal numbers) e) (λ a b. once_more numbers k a b)
  where
    go : (b : Bool) → (r == k) ≡ b → (b || list_any (λ m. m == k) numbers) ≡ false → (list_any (λ s. s == r) numbers ≡ false) × (twice_refusal numbers ≡ None) → (twice_refusal numbers ≡ None → list_any (λ m. m == k) numbers ≡ false → twice_refusal (numbers ++ k ∷ []) ≡ None) → twice_refusal (r ∷ numbers ++ k ∷ []) ≡ None
    go true g h rest ih = absurd (cc)
    go false g h rest ih = fails (list_any (λ s. s == r) (numbers ++ k ∷ [])) (TwiceUsed r) (twice_refusal (numbers ++ k ∷ [])) (other numbers k r g rest.0) (ih rest.1 h)

module _ (names : List Text) where
  number_kept : (n : ℕ) (s t : List ℕ) (place : Place) (d : Data) → Numbers (length names) n s → relation_added names s place d ≡ Ok t → Numbers (length names) (suc n) t
  number_kept n s t place d h e =
      let k = bound (named names place d) _ t e in
      let c = tested (not (list_any (λ m. m == k.0) s)) Name place _ t k.2 in
      let same : s ++ k.0 ∷ [] ≡ t = cc in
      subst (Numbers (length names) (suc n)) same (
        one_longer s k.0 n h.0,
        below_more (length names) s k.0 h.1 (named_below names place d k.0 k.1),
        once_more s k.0 h.2 (is_not (list_any (λ m. m == k.0) s) c.0),
      )

  pub numbers_read : (place : Place) (d : Data) (numbers : List ℕ) → relations_in names place d ≡ Ok numbers → (is_within 1 4 (length numbers) ≡ true) × (relation_refusal (length names) numbers ≡ None) × (twice_refusal numbers ≡ None)
  numbers_read place d numbers e =
      let r = list_read (relation_added names) (Numbers (length names)) number_kept 1 4 place [] numbers d (refl, refl, refl) e in
      (ap (λ k. is_within 1 4 k) r.3.0 ∙ ap₂ (λ a b. a && b) r.1 r.2, r.3.1, r.3.2)

-- ---- keys

key_is : (relations : List RelationForm) (n : ℕ) → key_of (slice_get relations n) ≡ (base_at relations n).key
key_is [] n = refl
key_is (r ∷ relations) zero = refl
key_is (r ∷ relations) (suc n) = key_is relations n

module _ (out : List ColRef) where
  key_out : (part relation : ℕ) (key : List ℕ) → list_all (is_among_columns out part) key ≡ true → key_refusal_at out part relation key ≡ None
  key_out part relation [] e = refl
  key_out part relation (column ∷ key) e =
      let b = and_parts (is_among_columns out part column) (list_all (is_among_columns out part) key) e in
      passes (list_any (is_column part column) out) (KeyMissing relation column) (key_refusal_at out part relation key) b.0 (key_out part relation key b.1)

  keys_out : (relations : List RelationForm) (part : ℕ) (numbers : List ℕ) → are_keys_out out relations part numbers ≡ true → key_refusal out part numbers (map (base_at relations) numbers) ≡ None
  keys_out relations part [] e = refl
  keys_out relations part (n ∷ numbers) e =
      let b = and_parts (list_all (is_among_columns out part) (key_of (slice_get relations n))) (are_keys_out out relations (suc part) numbers) e in
      both_none (key_refusal_at out part n (base_at relations n).key) (key_refusal out (suc part) numbers (map (base_at relations) numbers))
      (key_out part n (base_at relations n).key (ap (list_all (is_among_columns out part)) (sym (key_is relations n)) ∙ b.0))
      (keys_out relations (suc part) numbers b.1)

-- ---- together

module _ (basis : Basis) where
  abbrev schemas : List Columns
  schemas = map (λ r. r.table.columns) basis.relations

  accepted : (numbers : List ℕ) (choice : Choice) → (is_within 1 4 (length numbers) ≡ true) × (relation_refusal (length schemas) numbers ≡ None) × (twice_refusal numbers ≡ None) → IsChoice (map (base_at basis.relations) numbers) choice → are_keys_out choice.out basis.relations 0 numbers ≡ true → refusal_of schemas (parts_with basis numbers choice) ≡ None
  accepted numbers choice ok is keyed =
      let bases = map (base_at basis.relations) numbers in
      let parts = parts_with basis numbers choice in
      let homes : (length (homes_of basis.homes numbers) == length numbers) ≡ true = eq-eqb (length (homes_of basis.homes numbers)) (length numbers) (length-map numbers (λ n. get_or basis.homes n 0)) in
      let within : are_within parts ≡ true = ap₂ (λ a b. a && b) (ap₂ (λ a b. a && b) (ap₂ (λ a b. a && b) (ap₂ (λ a b. a && b) ok.0 homes) is.equal) is.conds) (ap₂ (λ a b. a && b) is.some_out is.out) in
      let kinds : (list_all (joins_one_kind bases) choice.equal && list_all (tests_own_kind bases) choice.conds) ≡ true = ap₂ (λ a b. a && b) is.join is.test in
      both_none (limit_refusal parts) _ (passes (are_within parts) Limit None within refl)
      (both_none (relation_refusal (length schemas) numbers) _ ok.1
      (both_none (twice_refusal numbers) _ ok.2
      (both_none (column_refusal bases (equality_columns choice.equal)) _ is.equal_there
      (both_none (column_refusal bases (map (λ c. c.at) choice.conds)) _ is.conds_there
      (both_none (column_refusal bases choice.out) _ is.out_there
      (both_none (kinds_refusal (view_of schemas parts)) _ (passes (list_all (joins_one_kind bases) choice.equal && list_all (tests_own_kind bases) choice.conds) Kinds None kinds refl)
      (keys_out choice.out basis.relations 0 numbers keyed)))))))

  parts_made : (place : Place) (d : Data) (parts : ViewData) → parts_in basis place d ≡ Ok parts → refusal_of schemas parts ≡ None
  parts_made place d parts e =
      let n = bound (numbers_in basis place d) _ parts e in
      let c = bound (keyed_choice basis n.0 place d) _ parts n.2 in
      let list = member_read member.Relations (relations_in (relation_names basis.relations)) place d n.0 n.1 in
      let numbers = numbers_read (relation_names basis.relations) (in_member place member.Relations) list.0 n.0 list.1 in
      let count : length (relation_names basis.relations) ≡ length schemas = length-map basis.relations (λ r. r.name) ∙ sym (length-map basis.relations (λ r. r.table.columns)) in
      let choice = bound (choice_in (view_columns basis.relations 0 n.0) basis.texts place d) (with_keys basis.relations n.0 place) c.0 c.1 in
      let keyed = tested (are_keys_out choice.0.out basis.relations 0 n.0) Key (in_member place member.Out) _ c.0 choice.2 in
      let bases = map (base_at basis.relations) n.0 in
      let fit = view_fit bases basis.relations 0 n.0 (λ j. let same : 0 + j ≡ j = omega arith in ap (slice_get bases) same) in
      let is = choice_read bases (view_columns basis.relations 0 n.0) fit basis.texts place d choice.0 choice.1 in
      let same_choice : choice.0 ≡ c.0 = cc in
      let same : parts_with basis n.0 c.0 ≡ parts = cc in
      subst (λ (p : ViewData). refusal_of schemas p ≡ None) (ap (parts_with basis n.0) same_choice ∙ same)
      (accepted n.0 choice.0 (numbers.0, subst (λ k. relation_refusal k n.0 ≡ None) count numbers.1, numbers.2) is keyed.0)

  pub made : (taken : List Text) (place : Place) (d : Data) (form : ViewForm) → view_in basis taken place d ≡ Ok form → refusal_of schemas form.parts ≡ None
  made taken place d form e =
      let name = bound (named_view taken place d) _ form e in
      let parts = bound (parts_in basis place d) _ form name.2 in
      let slots = bound (within_or default_slots member.Slots (number_within 1 4096) place d) _ form parts.2 in
      let view : ViewForm = record { name = name.0; parts = parts.0; slots = slots.0 } in
      let same : view ≡ form = cc in
      subst (λ (f : ViewForm). refusal_of schemas f.parts ≡ None) same (parts_made place d parts.0 parts.1)

  parts_homes : (place : Place) (d : Data) (parts : ViewData) → parts_in basis place d ≡ Ok parts → parts.homes ≡ homes_of basis.homes parts.relations
  parts_homes place d parts e =
      let n = bound (numbers_in basis place d) _ parts e in
      let c = bound (keyed_choice basis n.0 place d) _ parts n.2 in
      let same : parts_with basis n.0 c.0 ≡ parts = cc in
      subst (λ (p : ViewData). p.homes ≡ homes_of basis.homes p.relations) same refl

  -- the sources of its relations are those of the basis
  pub homes_read : (taken : List Text) (place : Place) (d : Data) (form : ViewForm) → view_in basis taken place d ≡ Ok form → form.parts.homes ≡ homes_of basis.homes form.parts.relations
  homes_read taken place d form e =
      let name = bound (named_view taken place d) _ form e in
      let parts = bound (parts_in basis place d) _ form name.2 in
      let slots = bound (within_or default_slots member.Slots (number_within 1 4096) place d) _ form parts.2 in
      let view : ViewForm = record { name = name.0; parts = parts.0; slots = slots.0 } in
      let same : view ≡ form = cc in
      subst (λ (f : ViewForm). f.parts.homes ≡ homes_of basis.homes f.parts.relations) same (parts_homes place d parts.0 parts.1)
