-- What a relation keeps when it is read.
--
-- `relations_read`: the relations of a source are 1 to 4 more (`AreMore`), each of them a relation (`IsRelation`): 1 to 8 columns, a key of
-- some of them and none twice, and up to 4,096 rows of them with no number above the greatest, in the order of the key.
--
-- The idea: each list is read element by element, and what is kept is a fact of what was read so far. Five lemmas carry it: `columns_read`,
-- `key_read`, `values_read` (a row has a code for each column), `rows_read` (a row is put where its key belongs) and `relation_read`.
use Rattle.std.proofs.Common.{◌≡◌, ◌⊎◌, inl, inr, ℕ, zero, suc, ◌+◌, ◌<◌, ◌≤◌, ◌&&◌, ◌||◌, ◌==◌, nat_le, not, Bool, true, false, cond, List, [], ◌∷◌, ◌++◌, length, map, get_or, is_none, option_map, option_and_then, Option, Some, None, Ok, Ordering, Less, Equal, Greater, refl, sym, ap, ap₂, subst, ◌∙◌, arith, append_assoc, append-nil, eqb-true}
use Rattle.std.specs.List.{list_all, list_any, AllByRecursion}
use Rattle.std.specs.Ordering.{match_ordering}
use Rattle.std.proofs.lemmas.Bool.{and_parts}
use Rattle.std.proofs.lemmas.Bool.Decides.{nat_tests}
use Rattle.serde_json.specs.Data.{Data}
use Rattle.serde_json.specs.Find.{as_number, as_u64}
use Rattle.whips_model.specs.declared.Kind.{Kind}
use Rattle.whips_model.specs.declared.Kind.TheVariants.{Number, Text as TextKind}
use Rattle.whips_model.specs.Tuples.{Codes, Columns, AreColumns, codes_cmp, at_columns, row_at, put_row, IsKeyed}
use Rattle.whips_model.specs.Relation.{Table, IsTable}
use Rattle.whips_model.proofs.Keyed.{widths_put, keyed_put}
use Rattle.whips_view.specs.ViewDefs.{is_within}
use Rattle.whips_setup.specs.Limits.{are_distinct, is_schema, has_numbers_within}
use Rattle.whips_reading.specs.declared.place.Code.TheVariants.{Shape, Name, Value, Key}
use Rattle.whips_reading.specs.declared.place.Member.TheVariants as member
use Rattle.whips_reading.specs.Json.{Text, only}
use Rattle.whips_reading.specs.Places.{Place, in_member, in_element}
use Rattle.whips_reading.specs.Reading.{pair, listed, within, within_or}
use Rattle.whips_reading.specs.Names.{fresh_name, named}
use Rattle.whips_texts.specs.Values.{number_value, value_in}
use Rattle.whips_relation_reading.specs.Columns.{NamedColumns, no_columns, kind_in, with_column, column_added, columns_in, key_column_added, key_in}
use Rattle.whips_relation_reading.specs.Rows.{kind_at, value_added, values, row_added, rows_in}
use Rattle.whips_relation_reading.specs.Relations.{RelationForm, no_rows, new_name, empty_relation, relation_in, relation_added, relations_added}
use Rattle.whips_script_laws.proofs.Parts.{bound, tested, there_is, turned, list_read, member_read, member_or_read}
use Rattle.whips_script_laws.proofs.Appended.{is_not, one_longer, each_append, other}
use Rattle.whips_script_laws.proofs.Viewed.{named_below}

-- ---- columns

abbrev AreNamed : ℕ → NamedColumns → Type 0
AreNamed n c = (length c.names ≡ n) × (length c.kinds ≡ n)

column_kept : (n : ℕ) (s t : NamedColumns) (place : Place) (d : Data) → AreNamed n s → column_added s place d ≡ Ok t → AreNamed (suc n) t
column_kept n s t place d h e =
    let p = bound (pair place d) _ t e in
    let name = bound (fresh_name s.names (in_element place 0) p.0.0) _ t p.2 in
    let kind = bound (kind_in (in_element place 1) p.0.1) _ t name.2 in
    let same : with_column s name.0 kind.0 ≡ t = cc in
    subst (AreNamed (suc n)) same (one_longer s.names name.0 n h.0, one_longer s.kinds kind.0 n h.1)

columns_read : (place : Place) (d : Data) (c : NamedColumns) → columns_in place d ≡ Ok c → (is_within 1 8 (length c.kinds) ≡ true) × (length c.names ≡ length c.kinds)
columns_read place d c e =
    let r = list_read column_added AreNamed column_kept 1 8 place no_columns c d (refl, refl) e in
    (ap (λ k. is_within 1 8 k) r.3.1 ∙ ap₂ (λ a b. a && b) r.1 r.2, r.3.0 ∙ sym r.3.1)

-- ---- keys

distinct_last : (key : List ℕ) (k : ℕ) → are_distinct key ≡ true → list_any (λ m. m == k) key ≡ false → are_distinct (key ++ k ∷ []) ≡ true
distinct_last [] k e f = refl
distinct_last (r ∷ key) k e f = go (r == k) refl f (and_parts (not (list_any (λ m. m == r) key)) (are_distinct key) e) (λ a b. distinct_last key k a b)
  where
    go : (b : Bool) → (r == k) ≡ b → (b || list_any (λ m. m == k) key) ≡ false → (not (list_any (λ m. m == r) key) ≡ true) × (are_distinct key ≡ true) → (are_distinct key ≡ true → list_any (λ m. m == k) key ≡ false → are_distinct (key ++ k ∷ []) ≡ true) → are_distinct (r ∷ key ++ k ∷ []) ≡ true
    go true g h rest ih = absurd (cc)
    go false g h rest ih = ap₂ (λ a b. not a && b) (other key k r g (is_not (list_any (λ m. m == r) key) rest.0)) (ih rest.1 h)

module _ (names : List Text) where
  abbrev IsKey : ℕ → List ℕ → Type 0
  IsKey n key = (length key ≡ n) × (are_distinct key ≡ true) × AllByRecursion (λ c. c < length names) key

  key_kept : (n : ℕ) (s t : List ℕ) (place : Place) (d : Data) → IsKey n s → key_column_added names s place d ≡ Ok t → IsKey (suc n) t
  key_kept n s t place d h e =
      let k = bound (named names place d) _ t e in
      let c = tested (not (list_any (λ m. m == k.0) s)) Name place _ t k.2 in
      let same : s ++ k.0 ∷ [] ≡ t = cc in
      subst (IsKey (suc n)) same (
        one_longer s k.0 n h.0,
        distinct_last s k.0 h.1 (is_not (list_any (λ m. m == k.0) s) c.0),
        each_append (λ x. x < length names) s (k.0 ∷ []) h.2 (named_below names place d k.0 k.1, tt),
      )

  key_read : (place : Place) (d : Data) (key : List ℕ) → key_in names place d ≡ Ok key → (nat_le 1 (length key) ≡ true) × (are_distinct key ≡ true) × AllByRecursion (λ c. c < length names) key
  key_read place d key e =
      let r = list_read (key_column_added names) IsKey key_kept 1 8 place [] key d (refl, refl, tt) e in
      (ap (λ k. nat_le 1 k) r.3.0 ∙ r.1, r.3.1, r.3.2)

-- ---- values

-- what passed a test
pub only_is : (test : ℕ → Bool) (o : Option ℕ) (x : ℕ) → only test o ≡ Some x → test x ≡ true
only_is test None x e = absurd (cc)
only_is test (Some y) x e = go (test y) refl e
  where
    go : (b : Bool) → test y ≡ b → cond b (Some y) None ≡ Some x → test x ≡ true
    go true h f = let same : y ≡ x = cc in subst (λ z. test z ≡ true) same h
    go false h f = absurd (cc)

number_read : (texts : List Text) (kind : Kind) (place : Place) (d : Data) (code : ℕ) → value_in texts kind place d ≡ Ok code → kind ≡ Number → nat_le code 999999999999 ≡ true
number_read texts Number place d code e is = only_is (λ n. nat_le n 999999999999) (option_and_then as_u64 (as_number d)) code (there_is (number_value d) Value place code e)
number_read texts TextKind place d code e is = absurd (cc)

none_within : (kinds : List Kind) → has_numbers_within kinds [] ≡ true
none_within [] = refl
none_within (k ∷ kinds) = refl

more_within : (kinds : List Kind) (t : Codes) (code : ℕ) → has_numbers_within kinds t ≡ true → (kind_at kinds (length t) ≡ Number → nat_le code 999999999999 ≡ true) → has_numbers_within kinds (t ++ code ∷ []) ≡ true
more_within [] t code e f = refl
more_within (Number ∷ kinds) [] code e f = ap₂ (λ a b. a && b) (f refl) (none_within kinds)
more_within (TextKind ∷ kinds) [] code e f = none_within kinds
more_within (Number ∷ kinds) (c ∷ t) code e f =
    let b = and_parts (nat_le c 999999999999) (has_numbers_within kinds t) e in
    ap₂ (λ a b. a && b) b.0 (more_within kinds t code b.1 f)
more_within (TextKind ∷ kinds) (c ∷ t) code e f = more_within kinds t code e f

-- a row has a code for each column, and no number above the greatest
abbrev pub IsRowOf : Columns → Codes → Type 0
IsRowOf columns t = (length t ≡ length columns.kinds) × (has_numbers_within columns.kinds t ≡ true)

module _ (texts : List Text) (kinds : List Kind) where
  abbrev AreValues : ℕ → Codes → Type 0
  AreValues n t = (length t ≡ n) × (has_numbers_within kinds t ≡ true)

  value_kept : (n : ℕ) (s t : Codes) (place : Place) (d : Data) → AreValues n s → value_added texts kinds s place d ≡ Ok t → AreValues (suc n) t
  value_kept n s t place d h e =
      let v = bound (value_in texts (kind_at kinds (length s)) place d) _ t e in
      let same : s ++ v.0 ∷ [] ≡ t = cc in
      subst (AreValues (suc n)) same (one_longer s v.0 n h.0, more_within kinds s v.0 h.1 (number_read texts (kind_at kinds (length s)) place d v.0 v.1))

  pub values_read : (place : Place) (d : Data) (t : Codes) → values texts kinds place d ≡ Ok t → (length t ≡ length kinds) × (has_numbers_within kinds t ≡ true)
  values_read place d t e =
      let ds = bound (listed place d) _ t e in
      let c = tested (length ds.0 == length kinds) Shape place _ t ds.2 in
      let r = turned (value_added texts kinds) AreValues value_kept place 0 0 [] t ds.0 (refl, none_within kinds) c.1 in
      let all : 0 + length ds.0 ≡ length ds.0 = omega arith in
      (r.0 ∙ all ∙ eqb-true (length ds.0) (length kinds) c.0, r.1)

-- ---- rows

put_length : (key : List ℕ) (t : Codes) (rows : List Codes) → length (put_row key t rows) ≤ suc (length rows)
put_length key t [] = omega arith
put_length key t (u ∷ rows) = go (put_length key t rows) (codes_cmp (at_columns key t) (at_columns key u))
  where
    go : length (put_row key t rows) ≤ suc (length rows) → (o : Ordering) → length (match_ordering o (t ∷ u ∷ rows) (t ∷ rows) (u ∷ put_row key t rows)) ≤ suc (suc (length rows))
    go ih Less = omega arith
    go ih Equal = omega arith
    go ih Greater = omega arith

-- the rows of a relation are its rows
abbrev pub IsGood : Table → Type 0
IsGood table = AllByRecursion (IsRowOf table.columns) table.rows

-- a relation of these columns, with up to n rows
record IsFilled (columns : Columns) (n : ℕ) (table : Table) : Type 0 where
  columns_are : table.columns ≡ columns
  few : length table.rows ≤ n
  good : IsGood table
  keyed : IsKeyed table.columns.key table.rows

module _ (texts : List Text) (columns : Columns) where
  row_kept : (n : ℕ) (s t : Table) (place : Place) (d : Data) → IsFilled columns n s → row_added texts s place d ≡ Ok t → IsFilled columns (suc n) t
  row_kept n s t place d h e =
      let v = bound (values texts s.columns.kinds place d) _ t e in
      let c = tested (is_none (row_at s.columns.key (at_columns s.columns.key v.0) s.rows)) Key place _ t v.2 in
      let after : Table = record s { rows = put_row s.columns.key v.0 s.rows } in
      let same : after ≡ t = cc in
      let filled : IsFilled columns (suc n) after = record {
        columns_are = h.columns_are;
        few = let longer = put_length s.columns.key v.0 s.rows in let before = h.few in omega (arith, longer, before);
        good = widths_put (IsRowOf s.columns) s.columns.key v.0 s.rows (values_read texts s.columns.kinds place d v.0 v.1) h.good;
        keyed = keyed_put s.columns.key v.0 s.rows h.keyed;
      } in
      subst (IsFilled columns (suc n)) same filled

  rows_read : (place : Place) (d : Data) (empty table : Table) → IsFilled columns 0 empty → rows_in texts empty place d ≡ Ok table → IsFilled columns 4096 table
  rows_read place d empty table h e =
      let r = list_read (row_added texts) (IsFilled columns) row_kept 0 4096 place empty table d h e in
      let low = r.3.few in
      let high = r.2 in
      record { columns_are = r.3.columns_are; few = below r.0 (length table.rows) low high; good = r.3.good; keyed = r.3.keyed }
    where
      below : (n rows : ℕ) → rows ≤ n → nat_le n 4096 ≡ true → rows ≤ 4096
      below n rows low high = grind (arith, nat_tests)

-- ---- relations

-- what a relation keeps: 1 to 8 columns, a key that names some of them and none twice, and up to 4,096 rows of them, in the order of the key
pub record IsRelation (r : RelationForm) : Type 0 where
  pub schema : is_schema r.table.columns ≡ true
  pub key : AreColumns r.table.columns.kinds r.table.columns.key
  pub few : length r.table.rows ≤ 4096
  pub good : IsGood r.table
  pub keyed : IsKeyed r.table.columns.key r.table.rows

record IsEmpty (table : Table) : Type 0 where
  schema : is_schema table.columns ≡ true
  key : AreColumns table.columns.kinds table.columns.key
  rows : IsFilled table.columns 0 table

empty_read : (place : Place) (d : Data) (made : List Text × Table) → empty_relation place d ≡ Ok made → IsEmpty made.1
empty_read place d made e =
    let c = bound (within member.Columns columns_in place d) _ made e in
    let k = bound (within member.Key (key_in c.0.names) place d) _ made c.2 in
    let cs = member_read member.Columns columns_in place d c.0 c.1 in
    let ks = member_read member.Key (key_in c.0.names) place d k.0 k.1 in
    let columns = columns_read (in_member place member.Columns) cs.0 c.0 cs.1 in
    let key = key_read c.0.names (in_member place member.Key) ks.0 k.0 ks.1 in
    let pair_made : List Text × Table = (c.0.names, no_rows c.0 k.0) in
    let same : pair_made ≡ made = cc in
    let is_empty : IsEmpty (no_rows c.0 k.0) = record {
      schema = ap₂ (λ a b. a && b) (ap₂ (λ a b. a && b) columns.0 key.0) key.1;
      key = subst (λ n. AllByRecursion (λ c. c < n) k.0) columns.1 key.2;
      rows = record { columns_are = refl; few = omega arith; good = tt; keyed = tt };
    } in
    subst (λ (m : List Text × Table). IsEmpty m.1) same is_empty

module _ (texts : List Text) where
  filled_read : (place : Place) (d : Data) (empty table : Table) → IsEmpty empty → within_or empty member.Rows (rows_in texts empty) place d ≡ Ok table → IsFilled empty.columns 4096 table
  filled_read place d empty table h e = elim (member_or_read member.Rows (rows_in texts empty) place d table empty e) [
    | inl same ↦ subst (IsFilled empty.columns 4096) same (record { columns_are = refl; few = (let none = h.rows.few in omega (arith, none)); good = h.rows.good; keyed = h.rows.keyed })
    | inr some ↦ rows_read texts empty.columns (in_member place member.Rows) some.0 empty table h.rows some.1
  ]

  relation_read : (relations : List RelationForm) (place : Place) (d : Data) (r : RelationForm) → relation_in texts relations place d ≡ Ok r → IsRelation r
  relation_read relations place d r e =
      let name = bound (new_name relations place d) _ r e in
      let empty = bound (empty_relation place d) _ r name.2 in
      let table = bound (within_or empty.0.1 member.Rows (rows_in texts empty.0.1) place d) _ r empty.2 in
      let is = empty_read place d empty.0 empty.1 in
      let filled = filled_read place d empty.0.1 table.0 is table.1 in
      let form : RelationForm = record { name = name.0; columns = empty.0.0; table = table.0 } in
      let same : form ≡ r = cc in
      let relation : IsRelation form = record {
        schema = subst (λ (c : Columns). is_schema c ≡ true) (sym filled.columns_are) is.schema;
        key = subst (λ (c : Columns). AreColumns c.kinds c.key) (sym filled.columns_are) is.key;
        few = filled.few;
        good = filled.good;
        keyed = filled.keyed;
      } in
      subst IsRelation same relation

  module _ (relations : List RelationForm) where
    -- the relations, with n more behind them
    pub record AreMore (n : ℕ) (all : List RelationForm) : Type 0 where
      pub new : List RelationForm
      pub are : all ≡ relations ++ new
      pub count : length new ≡ n
      pub each : AllByRecursion IsRelation new

    relation_kept : (n : ℕ) (s t : List RelationForm) (place : Place) (d : Data) → AreMore n s → relation_added texts s place d ≡ Ok t → AreMore (suc n) t
    relation_kept n s t place d h e =
        let r = bound (relation_in texts s place d) _ t e in
        let same : s ++ r.0 ∷ [] ≡ t = cc in
        record {
          new = h.new ++ r.0 ∷ [];
          are = sym same ∙ ap (λ l. l ++ r.0 ∷ []) h.are ∙ append_assoc relations h.new (r.0 ∷ []);
          count = one_longer h.new r.0 n h.count;
          each = each_append IsRelation h.new (r.0 ∷ []) h.each (relation_read s place d r.0 r.1, tt);
        }

    pub relations_read : (place : Place) (d : Data) (all : List RelationForm) → relations_added texts relations place d ≡ Ok all → (n : ℕ) × (nat_le 1 n ≡ true) × (nat_le n 4 ≡ true) × AreMore n all
    relations_read place d all e = list_read (relation_added texts) AreMore relation_kept 1 4 place relations all d (record { new = []; are = sym (append-nil relations); count = refl; each = tt }) e
