-- Data that was read is plain: texts, numbers, values, lists of them, and rows.
use Rattle.std.proofs.Common.{◌≡◌, ℕ, suc, ◌+◌, ◌^◌, ◌<◌, ◌≤◌, ◌==◌, ◌&&◌, true, nat_le, List, [], ◌∷◌, length, Option, Some, None, Ok, refl, sym, subst, ◌∙◌, arith, option_map, option_and_then}
use Rattle.std.specs.List.{AllByRecursion}
use Rattle.std.proofs.lemmas.Bool.{and_parts, leb-true}
use Rattle.serde_json.specs.Data.{Data}
use Rattle.serde_json.specs.Find.{as_str, as_number, as_u64}
use Rattle.serde_json.specs.View.{items_of}
use Rattle.whips_model.specs.declared.Kind.{Kind}
use Rattle.whips_model.specs.declared.Kind.TheVariants.{Number, Text as TextKind}
use Rattle.whips_model.specs.Tuples.{Codes}
use Rattle.whips_model.specs.Relation.{Table}
use Rattle.whips_reading.specs.declared.place.Code.TheVariants.{Shape, Limit, Value}
use Rattle.whips_reading.specs.Json.{Text, only, is_same_text, is_text, list_of}
use Rattle.whips_reading.specs.Places.{Place, in_element}
use Rattle.whips_reading.specs.Reading.{Read, ◌>>=◌, there, listed, elements, triple, in_turn, number_within}
use Rattle.whips_reading.specs.Names.{text_in}
use Rattle.whips_reading.proofs.Documents.{list_of-items_of}
use Rattle.whips_texts.specs.Texts.{rank}
use Rattle.whips_texts.specs.Values.{number_value, text_value, value_in}
use Rattle.whips_relation_reading.specs.Rows.{kind_at, value_added, values, row_added, rows_in}
use Rattle.whips_script_laws.proofs.Parts.{bound, tested, there_is}
use Rattle.whips_script_laws.proofs.Related.{only_is as only_passes}
use Rattle.whips_script_writing.specs.Objects.{list_data}
use Rattle.whips_canonical_laws.specs.Known.{OfEach}
use Rattle.whips_canonical_laws.proofs.Lists.{text_is, text_written, listed_is, listed_written, elements_listed, triple_listed}
use Rattle.whips_canonical_laws.proofs.Values.{only_is, number_is}
use Rattle.whips_canonical_laws.proofs.Schedules.{number_written}
use Rattle.whips_plain_laws.proofs.Made.{IsPlainTo, text_plain, number_plain, list_plain}

-- ---- texts

pub found_text_plain : (n : ℕ) (d : Data) (t : Text) → as_str d ≡ Some t → IsPlainTo n d
found_text_plain n d t e = subst (IsPlainTo n) (text_is d t e) (text_plain n t)

-- what is read by its text is a text
pub word_plain : {B : Type 0} (n : ℕ) (place : Place) (d : Data) (next : Text → Read B) (b : B) → (text_in place d >>= next) ≡ Ok b → IsPlainTo n d
word_plain n place d next b e = let t = bound (text_in place d) next b e in subst (IsPlainTo n) (text_written place d t.0 t.1) (text_plain n t.0)

pub same_text_plain : (n : ℕ) (text : Text) (d : Data) → is_text text d ≡ true → IsPlainTo n d
same_text_plain n text d e = go (as_str d) (λ t f. found_text_plain n d t f) e
  where
    go : (o : Option Text) → ((t : Text) → o ≡ Some t → IsPlainTo n d) → is_same_text text o ≡ true → IsPlainTo n d
    go None h f = absurd (cc)
    go (Some t) h f = h t refl

-- ---- numbers and values

within_bits : (k most : ℕ) → nat_le k most ≡ true → most < 2 ^ 64 → k < 2 ^ 64
within_bits k most le small = let low = leb-true k most le in below k most (2 ^ 64) low small
  where
    below : (a b c : ℕ) → a ≤ b → b < c → a < c
    below a b c le lt = omega arith

pub number_read_plain : (n least most : ℕ) → most < 2 ^ 64 → (place : Place) (d : Data) (k : ℕ) → number_within least most place d ≡ Ok k → IsPlainTo n d
number_read_plain n least most small place d k e =
    let b = bound (there (as_number d) Shape place) _ k e in
    let test = only_passes (λ j. nat_le least j && nat_le j most) (as_u64 b.0) k (there_is (only (λ j. nat_le least j && nat_le j most) (as_u64 b.0)) Limit place k b.2) in
    let limits = and_parts (nat_le least k) (nat_le k most) test in
    subst (IsPlainTo n) (number_written least most place d k e) (number_plain n k (within_bits k most limits.1 small))

pub value_plain : (n : ℕ) (texts : List Text) (kind : Kind) (place : Place) (d : Data) (code : ℕ) → value_in texts kind place d ≡ Ok code → IsPlainTo n d
value_plain n texts Number place d code e =
    let is = there_is (number_value d) Value place code e in
    let o = option_and_then as_u64 (as_number d) in
    let low = only_passes (λ j. nat_le j 999999999999) o code is in
    subst (IsPlainTo n) (number_is d code (only_is (λ j. nat_le j 999999999999) o code is)) (number_plain n code (within_bits code 999999999999 low (omega arith)))
value_plain n texts TextKind place d code e = go (as_str d) (λ t f. found_text_plain n d t f) (there_is (option_map (rank texts) (text_value d)) Value place code e)
  where
    go : (o : Option Text) → ((t : Text) → o ≡ Some t → IsPlainTo n d) → option_map (rank texts) (only (λ t. nat_le (length t) 64) o) ≡ Some code → IsPlainTo n d
    go None h f = absurd (cc)
    go (Some t) h f = h t refl

-- ---- lists

some_same : {A : Type 0} (x y : A) → Some x ≡ Some y → x ≡ y
some_same x y e = cc

-- what holds of each of these holds of each element of their list
pub of_list : (P : Data → Type 0) (ds : List Data) → AllByRecursion P ds → OfEach P (list_data ds)
of_list P ds h es e = subst (AllByRecursion P) (sym (list_of-items_of ds) ∙ some_same (list_of (items_of ds)) es e) h

pub of_all : (P : Data → Type 0) → ((d : Data) → P d) → (d : Data) → OfEach P d
of_all P h d ds e = go ds
  where
    go : (es : List Data) → AllByRecursion P es
    go [] = tt
    go (x ∷ es) = (h x, go es)

module _ {S : Type 0} (n : ℕ) (step : S → Place → Data → Read S) where
  -- it is plain where the step reads it
  abbrev pub IsPlainIfRead : Data → Type 0
  IsPlainIfRead d = (s t : S) (place : Place) → step s place d ≡ Ok t → IsPlainTo n d

  turned_plain : (place : Place) (i : ℕ) (s t : S) (ds : List Data) → AllByRecursion IsPlainIfRead ds → in_turn step place i s ds ≡ Ok t → AllByRecursion (IsPlainTo n) ds
  turned_plain place i s t [] h e = tt
  turned_plain place i s t (d ∷ ds) h e =
      let b = bound (step s (in_element place i) d) (λ u. in_turn step place (i + 1) u ds) t e in
      (h.0 s b.0 (in_element place i) b.1, turned_plain place (i + 1) b.0 t ds h.1 b.2)

  -- a list whose elements are read in turn
  pub turned_list_plain : (place : Place) (s t : S) (d : Data) (ds : List Data) → OfEach IsPlainIfRead d → listed place d ≡ Ok ds → in_turn step place 0 s ds ≡ Ok t → IsPlainTo (suc n) d
  turned_list_plain place s t d ds h l e = subst (IsPlainTo (suc n)) (listed_written place d ds l) (list_plain n ds (turned_plain place 0 s t ds (h ds (listed_is place d ds l)) e))

  pub elements_plain : (least most : ℕ) (place : Place) (s t : S) (d : Data) → OfEach IsPlainIfRead d → (elements least most place d >>= in_turn step place 0 s) ≡ Ok t → IsPlainTo (suc n) d
  elements_plain least most place s t d h e =
      let b = bound (elements least most place d) (in_turn step place 0 s) t e in
      turned_list_plain place s t d b.0 h (elements_listed least most place d b.0 b.1) b.2

pub triple_plain : (n : ℕ) (place : Place) (d a b c : Data) → triple place d ≡ Ok (a, b, c) → IsPlainTo n a → IsPlainTo n b → IsPlainTo n c → IsPlainTo (suc n) d
triple_plain n place d a b c e first second third =
    let ds = a ∷ b ∷ c ∷ [] in
    subst (IsPlainTo (suc n)) (listed_written place d ds (triple_listed place d a b c e)) (list_plain n ds (first, (second, (third, tt))))

-- ---- rows

module _ (texts : List Text) where
  added_plain : (n : ℕ) (kinds : List Kind) (d : Data) → IsPlainIfRead n (value_added texts kinds) d
  added_plain n kinds d s t place e = let b = bound (value_in texts (kind_at kinds (length s)) place d) _ t e in value_plain n texts (kind_at kinds (length s)) place d b.0 b.1

  pub values_plain : (n : ℕ) (kinds : List Kind) (place : Place) (d : Data) (t : Codes) → values texts kinds place d ≡ Ok t → IsPlainTo (suc n) d
  values_plain n kinds place d t e =
      let b = bound (listed place d) _ t e in
      let c = tested (length b.0 == length kinds) Shape place _ t b.2 in
      turned_list_plain n (value_added texts kinds) place [] t d b.0 (of_all (IsPlainIfRead n (value_added texts kinds)) (added_plain n kinds) d) b.1 c.1

  row_plain : (n : ℕ) (d : Data) → IsPlainIfRead (suc n) (row_added texts) d
  row_plain n d s t place e = let b = bound (values texts s.columns.kinds place d) _ t e in values_plain n s.columns.kinds place d b.0 b.1

  pub rows_plain : (n : ℕ) (table : Table) (place : Place) (d : Data) (after : Table) → rows_in texts table place d ≡ Ok after → IsPlainTo (suc (suc n)) d
  rows_plain n table place d after e = elements_plain (suc n) (row_added texts) 0 4096 place table after d (of_all (IsPlainIfRead (suc n) (row_added texts)) (row_plain n) d) e
