-- Values, and lists of values, columns and keys.
use Rattle.std.proofs.Common.{◌≡◌, ℕ, ◌+◌, ◌==◌, Bool, true, false, ◌&&◌, List, [], ◌∷◌, ◌++◌, length, map, slice_index_or, Option, Some, None, Ok, refl, sym, ap, ap₂, subst, ◌∙◌, append_assoc, append-nil, arith, length-append, eqb-true}
use Rattle.std.specs.Prelude.{if◌then◌else◌, ⊤, not, codes, option_and_then}
use Rattle.std.specs.List.{AllByRecursion, list_any}
use Rattle.std.specs.Option.{option_map}
use Rattle.serde_json.specs.Data.{Data, null, boolean, number, string, array, object, unsigned, negative, float}
use Rattle.serde_json.specs.Find.{as_str, as_number, as_u64}
use Rattle.whips_model.specs.declared.Kind.{Kind}
use Rattle.whips_model.specs.declared.Kind.TheVariants.{Number, Text as TextKind}
use Rattle.whips_model.specs.Tuples.{Codes}
use Rattle.whips_facts.specs.Scripts.{Labels}
use Rattle.whips_reports.specs.Lines.{name_at, value_data, row_data}
use Rattle.whips_reading.specs.declared.place.Code.TheVariants.{Shape, Name, Value}
use Rattle.whips_reading.specs.Json.{Text, only}
use Rattle.whips_reading.specs.Places.{Place, in_element}
use Rattle.whips_reading.specs.Reading.{listed, elements, pair, in_turn}
use Rattle.whips_reading.specs.Names.{text_in, is_name, is_among, fresh_name, named}
use Rattle.whips_texts.specs.Texts.{rank}
use Rattle.whips_texts.specs.Values.{number_value, text_value, value_in}
use Rattle.whips_relation_reading.specs.Columns.{NamedColumns, no_columns, kind_of, kind_in, with_column, column_added, columns_in, key_column_added, key_in}
use Rattle.whips_relation_reading.specs.Rows.{kind_at, value_added, values}
use Rattle.whips_script_laws.proofs.Parts.{bound, tested, there_is}
use Rattle.whips_script_writing.specs.Objects.{list_data, text_list}
use Rattle.whips_script_writing.specs.Relations.{values_data, kind_text, columns_data}
use Rattle.whips_canonical_laws.specs.Known.{Knows, KnowsEach}
use Rattle.whips_canonical_laws.proofs.Lists.{by_word, text_written, name_written, listed_is, listed_written, elements_listed, pair_written, list_made, all_plain}

-- ---- values

pub only_is : {A : Type 0} (test : A → Bool) (o : Option A) (x : A) → only test o ≡ Some x → o ≡ Some x
only_is test None x e = absurd (cc)
only_is test (Some y) x e = go (test y) e
  where
    go : (b : Bool) → (if b then Some y else None) ≡ Some x → Some y ≡ Some x
    go true f = f
    go false f = absurd (cc)

pub number_is : (d : Data) (n : ℕ) → option_and_then as_u64 (as_number d) ≡ Some n → number (unsigned n) ≡ d
number_is null n e = absurd (cc)
number_is (boolean b) n e = absurd (cc)
number_is (number (unsigned m)) n e = let same : m ≡ n = cc in ap (λ k. number (unsigned k)) (sym same)
number_is (number (negative z)) n e = absurd (cc)
number_is (number (float x)) n e = absurd (cc)
number_is (string s) n e = absurd (cc)
number_is (array ds) n e = absurd (cc)
number_is (object ms) n e = absurd (cc)

-- the code of a text that is known is that of the text
coded : (texts : List Text) (d : Data) (code : ℕ) → Knows texts d → (o : Option Text) → as_str d ≡ o → option_map (rank texts) o ≡ Some code → string (name_at texts code) ≡ d
coded texts d code known None f e = absurd (cc)
coded texts d code known (Some t) f e =
    let same : rank texts t ≡ code = cc in
    ap (λ k. string (name_at texts k)) (sym same) ∙ ap string (sym (known t f)) ∙ go d f
  where
    go : (c : Data) → as_str c ≡ Some t → string t ≡ c
    go null g = absurd (cc)
    go (boolean b) g = absurd (cc)
    go (number n) g = absurd (cc)
    go (string s) g = let is : s ≡ t = cc in ap string (sym is)
    go (array ds) g = absurd (cc)
    go (object ms) g = absurd (cc)

map_only : (texts : List Text) (test : Text → Bool) (o : Option Text) (code : ℕ) → option_map (rank texts) (only test o) ≡ Some code → option_map (rank texts) o ≡ Some code
map_only texts test None code e = absurd (cc)
map_only texts test (Some t) code e = go (test t) e
  where
    go : (b : Bool) → option_map (rank texts) (if b then Some t else None) ≡ Some code → Some (rank texts t) ≡ Some code
    go true f = f
    go false f = absurd (cc)

pub value_written : (l : Labels) (kind : Kind) (place : Place) (d : Data) (code : ℕ) → Knows l.texts d → value_in l.texts kind place d ≡ Ok code → value_data l code (Some kind) ≡ d
value_written l Number place d code known e = number_is d code (only_is _ _ code (there_is (number_value d) Value place code e))
value_written l TextKind place d code known e = coded l.texts d code known (as_str d) refl (map_only l.texts _ (as_str d) code (there_is (option_map (rank l.texts) (text_value d)) Value place code e))

-- ---- lists of values

at_end : (before : List Kind) (k : Kind) (rest : List Kind) (d : Kind) → slice_index_or (before ++ k ∷ rest) (length before) d ≡ k
at_end [] k rest d = refl
at_end (b ∷ before) k rest d = at_end before k rest d

module _ (l : Labels) where
  row_made : (before rest : List Kind) (place : Place) (i : ℕ) (t u : Codes) (ds : List Data) → AllByRecursion (Knows l.texts) ds → length t ≡ length before → length ds ≡ length rest → in_turn (value_added l.texts (before ++ rest)) place i t ds ≡ Ok u
      → (new : Codes) × (u ≡ t ++ new) × (row_data l (map (λ k. Some k) rest) new ≡ ds)
  row_made before [] place i t u [] h n m e = let same : t ≡ u = cc in ([], sym same ∙ sym (append-nil t), refl)
  row_made before (k ∷ rest) place i t u [] h n m e = absurd (cc)
  row_made before [] place i t u (d ∷ ds) h n m e = absurd (cc)
  row_made before (k ∷ rest) place i t u (d ∷ ds) h n m e =
      let b = bound (value_added l.texts (before ++ k ∷ rest) t (in_element place i) d) (λ v. in_turn (value_added l.texts (before ++ k ∷ rest)) place (i + 1) v ds) u e in
      let c = bound (value_in l.texts (kind_at (before ++ k ∷ rest) (length t)) (in_element place i) d) _ b.0 b.1 in
      let kind : kind_at (before ++ k ∷ rest) (length t) ≡ k = ap (λ j. slice_index_or (before ++ k ∷ rest) j Number) n ∙ at_end before k rest Number in
      let value = value_written l k (in_element place i) d c.0 h.0 (ap (λ q. value_in l.texts q (in_element place i) d) (sym kind) ∙ c.1) in
      let longer : t ++ c.0 ∷ [] ≡ b.0 = cc in
      let kinds : before ++ k ∷ rest ≡ (before ++ k ∷ []) ++ rest = sym (append_assoc before (k ∷ []) rest) in
      let width : length b.0 ≡ length (before ++ k ∷ []) = ap length (sym longer) ∙ length-append t (c.0 ∷ []) ∙ ap (λ j. j + 1) n ∙ sym (length-append before (k ∷ [])) in
      let fewer : length ds ≡ length rest = omega (arith, m) in
      let later = row_made (before ++ k ∷ []) rest place (i + 1) b.0 u ds h.1 width fewer (ap (λ (ks : List Kind). in_turn (value_added l.texts ks) place (i + 1) b.0 ds) (sym kinds) ∙ b.2) in
      (c.0 ∷ later.0, later.1 ∙ ap (λ s. s ++ later.0) (sym longer) ∙ append_assoc t (c.0 ∷ []) later.0, ap₂ (λ x xs. x ∷ xs) value later.2)

  pub row_written : (kinds : List Kind) (place : Place) (d : Data) (t : Codes) → KnowsEach l.texts d → values l.texts kinds place d ≡ Ok t → values_data l kinds t ≡ d
  row_written kinds place d t h e =
      let b = bound (listed place d) _ t e in
      let n = tested (length b.0 == length kinds) Shape place _ t b.2 in
      let m = row_made [] kinds place 0 [] t b.0 (h b.0 (listed_is place d b.0 b.1)) refl (eqb-true _ _ n.0) n.1 in
      ap (λ s. list_data (row_data l (map (λ k. Some k) kinds) s)) m.1 ∙ ap list_data m.2 ∙ listed_written place d b.0 b.1

-- ---- columns and keys

pub fresh_written : (taken : List Text) (place : Place) (d : Data) (name : Text) → fresh_name taken place d ≡ Ok name → string name ≡ d
fresh_written taken place d name e =
    let b = bound (text_in place d) _ name e in
    let n = tested (is_name b.0 && not (is_among taken b.0)) Name place _ name b.2 in
    let same : b.0 ≡ name = cc in
    ap string (sym same) ∙ text_written place d b.0 b.1

kind_written : (place : Place) (d : Data) (kind : Kind) → kind_in place d ≡ Ok kind → string (kind_text kind) ≡ d
kind_written place d kind e =
    let b = bound (text_in place d) (kind_of place) kind e in
    let is : kind_text kind ≡ b.0 =
    by_word b.0 (codes "number") _ _ (Ok kind) b.2
    (λ same f. let k : Number ≡ kind = cc in subst (λ x. kind_text x ≡ b.0) k (sym same))
    (λ f. by_word b.0 (codes "text") _ _ (Ok kind) f
    (λ same g. let k : TextKind ≡ kind = cc in subst (λ x. kind_text x ≡ b.0) k (sym same))
    (λ g. absurd (cc)))
    in ap string is ∙ text_written place d b.0 b.1

one_column : (s t : NamedColumns) (place : Place) (d : Data) → column_added s place d ≡ Ok t
    → (name : Text) × (kind : Kind) × (t ≡ with_column s name kind) × (text_list (name ∷ kind_text kind ∷ []) ≡ d)
one_column s t place d e =
    let p = bound (pair place d) _ t e in
    let a = bound (fresh_name s.names (in_element place 0) p.0.0) _ t p.2 in
    let b = bound (kind_in (in_element place 1) p.0.1) _ t a.2 in
    let same : with_column s a.0 b.0 ≡ t = cc in
    let name = fresh_written s.names (in_element place 0) p.0.0 a.0 a.1 in
    let kind = kind_written (in_element place 1) p.0.1 b.0 b.1 in
    (a.0, b.0, sym same, ap₂ (λ x y. list_data (x ∷ y ∷ [])) name kind ∙ pair_written place d p.0.0 p.0.1 p.1)

columns_made : (place : Place) (i : ℕ) (s t : NamedColumns) (ds : List Data) → in_turn column_added place i s ds ≡ Ok t
    → (names : List Text) × (kinds : List Kind) × (t.names ≡ s.names ++ names) × (t.kinds ≡ s.kinds ++ kinds) × (columns_data names kinds ≡ ds)
columns_made place i s t [] e =
    let same : s ≡ t = cc in
    ([], [], ap (λ (c : NamedColumns). c.names) (sym same) ∙ sym (append-nil s.names), ap (λ (c : NamedColumns). c.kinds) (sym same) ∙ sym (append-nil s.kinds), refl)
columns_made place i s t (d ∷ ds) e =
    let b = bound (column_added s (in_element place i) d) (λ u. in_turn column_added place (i + 1) u ds) t e in
    let one = one_column s b.0 (in_element place i) d b.1 in
    let rest = columns_made place (i + 1) b.0 t ds b.2 in (
      one.0 ∷ rest.0,
      one.1 ∷ rest.1,
      rest.2 ∙ ap (λ (c : NamedColumns). c.names ++ rest.0) one.2 ∙ append_assoc s.names (one.0 ∷ []) rest.0,
      rest.3 ∙ ap (λ (c : NamedColumns). c.kinds ++ rest.1) one.2 ∙ append_assoc s.kinds (one.1 ∷ []) rest.1,
      ap₂ (λ x xs. x ∷ xs) one.3 rest.4,
    )

pub columns_written : (place : Place) (d : Data) (columns : NamedColumns) → columns_in place d ≡ Ok columns → list_data (columns_data columns.names columns.kinds) ≡ d
columns_written place d columns e =
    let b = bound (elements 1 8 place d) (in_turn column_added place 0 no_columns) columns e in
    let m = columns_made place 0 no_columns columns b.0 b.2 in
    ap₂ (λ names kinds. list_data (columns_data names kinds)) m.2 m.3 ∙ ap list_data m.4 ∙ listed_written place d b.0 (elements_listed 1 8 place d b.0 b.1)

one_key : (names : List Text) (s t : List ℕ) (place : Place) (d : Data) → ⊤ → key_column_added names s place d ≡ Ok t → (c : ℕ) × (t ≡ s ++ c ∷ []) × (string (name_at names c) ≡ d)
one_key names s t place d h e =
    let b = bound (named names place d) _ t e in
    let n = tested (not (list_any (λ k. k == b.0) s)) Name place _ t b.2 in
    let same : s ++ b.0 ∷ [] ≡ t = cc in
    (b.0, sym same, name_written names place d b.0 b.1)

pub string_each : (names : List Text) (key : List ℕ) → map string (map (name_at names) key) ≡ map (λ c. string (name_at names c)) key
string_each names [] = refl
string_each names (c ∷ key) = ap (λ xs. string (name_at names c) ∷ xs) (string_each names key)

pub key_written : (names : List Text) (place : Place) (d : Data) (key : List ℕ) → key_in names place d ≡ Ok key → text_list (map (name_at names) key) ≡ d
key_written names place d key e = ap list_data (string_each names key) ∙ list_made (key_column_added names) (λ c. string (name_at names c)) (λ _. ⊤) (one_key names) 1 8 place d key (λ ds f. all_plain ds) e
