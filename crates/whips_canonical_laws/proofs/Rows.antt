-- Rows that were read, written in the order of their keys, are read as the same relation.
--
-- `rows_again` is the law. Each row that a relation has was read from some data (`all_back`), and the data that it is written as is read as
-- the row, wherever it stands (`values_elsewhere`). Rows in the order of their keys are put one behind another (`ordered`).
use Rattle.std.proofs.Common.{◌≡◌, ℕ, zero, suc, ◌+◌, ◌==◌, ◌≤◌, nat_le, Bool, true, false, cond, List, [], ◌∷◌, ◌++◌, length, map, Option, Some, None, Ok, refl, sym, ap, subst, ◌∙◌, ◌⊎◌, inl, inr, ⊎_elim, arith, append_assoc, append-nil}
use Rattle.std.specs.Prelude.{⊤, is_none}
use Rattle.std.specs.List.{AllByRecursion}
use Rattle.std.specs.Option.{option_map}
use Rattle.std.specs.Ordering.{match_ordering}
use Rattle.std.specs.declared.cmp.Ordering.{Ordering}
use Rattle.std.specs.declared.cmp.Ordering.TheVariants.{Less, Equal, Greater}
use Rattle.std.proofs.lemmas.Bool.Decides.{nat_tests}
use Rattle.std.proofs.lemmas.List.{length-map}
use Rattle.serde_json.specs.Data.{Data}
use Rattle.whips_lists.specs.Members.{Has}
use Rattle.whips_choices.proofs.Rows.{put_only}
use Rattle.whips_model.specs.declared.Kind.{Kind}
use Rattle.whips_model.specs.declared.Kind.TheVariants.{Number, Text as TextKind}
use Rattle.whips_model.specs.Tuples.{Codes, Columns, codes_cmp, at_columns, row_at, put_row, IsBefore, IsKeyed}
use Rattle.whips_model.specs.Relation.{Table}
use Rattle.whips_model.proofs.Keyed.{keyed_put, greater_from_less}
use Rattle.whips_facts.specs.Scripts.{Labels}
use Rattle.whips_reading.specs.declared.place.Code.TheVariants.{Shape, Limit, Key, Value}
use Rattle.whips_reading.specs.Json.{Text}
use Rattle.whips_reading.specs.Places.{Place, in_element}
use Rattle.whips_reading.specs.Reading.{Read, ◌>>=◌, ◌>>◌, check, there, listed, elements, in_turn}
use Rattle.whips_texts.specs.Texts.{rank}
use Rattle.whips_texts.specs.Values.{number_value, text_value, value_in}
use Rattle.whips_relation_reading.specs.Rows.{kind_at, value_added, values, row_added, rows_in}
use Rattle.whips_script_laws.proofs.Parts.{bound, tested, there_is}
use Rattle.whips_script_writing.specs.Objects.{list_data}
use Rattle.whips_script_writing.specs.Relations.{values_data, rows_data}
use Rattle.whips_canonical_laws.specs.Known.{KnowsEach, KnowsRows}
use Rattle.whips_canonical_laws.proofs.Lists.{listed_again, listed_is, elements_listed}
use Rattle.whips_canonical_laws.proofs.Values.{row_written}

-- ---- what was read at one place is read at each

value_elsewhere : (texts : List Text) (kind : Kind) (p q : Place) (d : Data) (code : ℕ) → value_in texts kind p d ≡ Ok code → value_in texts kind q d ≡ Ok code
value_elsewhere texts Number p q d code e = ap (λ o. there o Value q) (there_is (number_value d) Value p code e)
value_elsewhere texts TextKind p q d code e = ap (λ o. there o Value q) (there_is (option_map (rank texts) (text_value d)) Value p code e)

module _ {S : Type 0} (step : S → Place → Data → Read S) (one : (s t : S) (p q : Place) (d : Data) → step s p d ≡ Ok t → step s q d ≡ Ok t) where
  pub turned_elsewhere : (p q : Place) (i j : ℕ) (s t : S) (ds : List Data) → in_turn step p i s ds ≡ Ok t → in_turn step q j s ds ≡ Ok t
  turned_elsewhere p q i j s t [] e = e
  turned_elsewhere p q i j s t (d ∷ ds) e =
      let b = bound (step s (in_element p i) d) (λ u. in_turn step p (i + 1) u ds) t e in
      ap (λ r. r >>= λ u. in_turn step q (j + 1) u ds) (one s b.0 (in_element p i) (in_element q j) d b.1) ∙ turned_elsewhere p q (i + 1) (j + 1) b.0 t ds b.2

added_elsewhere : (texts : List Text) (kinds : List Kind) (s t : Codes) (p q : Place) (d : Data) → value_added texts kinds s p d ≡ Ok t → value_added texts kinds s q d ≡ Ok t
added_elsewhere texts kinds s t p q d e =
    let b = bound (value_in texts (kind_at kinds (length s)) p d) _ t e in
    ap (λ r. r >>= λ c. Ok (s ++ c ∷ [])) (value_elsewhere texts (kind_at kinds (length s)) p q d b.0 b.1) ∙ b.2

pub values_elsewhere : (texts : List Text) (kinds : List Kind) (p q : Place) (d : Data) (t : Codes) → values texts kinds p d ≡ Ok t → values texts kinds q d ≡ Ok t
values_elsewhere texts kinds p q d t e =
    let b = bound (listed p d) _ t e in
    let n = tested (length b.0 == length kinds) Shape p _ t b.2 in
    let there_too : listed q d ≡ Ok b.0 = ap (λ o. there o Shape q) (listed_is p d b.0 b.1) in
    ap (λ r. r >>= λ ds. check (length ds == length kinds) Shape q >> in_turn (value_added texts kinds) q 0 [] ds) there_too
    ∙ ap (λ c. check c Shape q >> in_turn (value_added texts kinds) q 0 [] b.0) n.0
    ∙ turned_elsewhere (value_added texts kinds) (added_elsewhere texts kinds) p q 0 0 [] t b.0 n.1

-- ---- rows that were read

-- the data that the row is written as is read as the row
abbrev pub IsReadBack : Labels → List Kind → Codes → Type 0
IsReadBack l kinds t = (place : Place) → values l.texts kinds place (values_data l kinds t) ≡ Ok t

pub row_back : (l : Labels) (kinds : List Kind) (p : Place) (d : Data) (t : Codes) → KnowsEach l.texts d → values l.texts kinds p d ≡ Ok t → IsReadBack l kinds t
row_back l kinds p d t known e = λ q. ap (values l.texts kinds q) (row_written l kinds p d t known e) ∙ values_elsewhere l.texts kinds p q d t e

put_length : (cols : List ℕ) (t : Codes) (rows : List Codes) → length (put_row cols t rows) ≤ suc (length rows)
put_length cols t [] = omega arith
put_length cols t (u ∷ rows) = go (put_length cols t rows) (codes_cmp (at_columns cols t) (at_columns cols u))
  where
    go : length (put_row cols t rows) ≤ suc (length rows) → (o : Ordering) → length (match_ordering o (t ∷ u ∷ rows) (t ∷ rows) (u ∷ put_row cols t rows)) ≤ suc (suc (length rows))
    go ih Less = omega arith
    go ih Equal = omega arith
    go ih Greater = omega (arith, ih)

-- ---- a row whose key is above all

abbrev AllBelow : List ℕ → Codes → List Codes → Type 0
AllBelow cols k rows = AllByRecursion (λ u. codes_cmp (at_columns cols u) k ≡ Less) rows

none_below : (cols : List ℕ) (k : Codes) (rows : List Codes) → AllBelow cols k rows → row_at cols k rows ≡ None
none_below cols k [] h = refl
none_below cols k (u ∷ rows) h = rw h.0 (none_below cols k rows h.1)

put_behind : (cols : List ℕ) (t : Codes) (rows : List Codes) → AllBelow cols (at_columns cols t) rows → put_row cols t rows ≡ rows ++ t ∷ []
put_behind cols t [] h = refl
put_behind cols t (u ∷ rows) h = rw (greater_from_less _ _ h.0) (ap (λ l. u ∷ l) (put_behind cols t rows h.1))

-- what holds of a relation whose rows were read
record IsRead (l : Labels) (columns : Columns) (table : Table) (n : ℕ) : Type 0 where
  same_columns : table.columns ≡ columns
  keyed : IsKeyed columns.key table.rows
  back : (u : Codes) → Has u table.rows → IsReadBack l columns.kinds u
  many : length table.rows ≤ n

module _ (l : Labels) (columns : Columns) where
  abbrev table_of : List Codes → Table
  table_of rows = record { columns = columns; rows = rows }

  all_back : (place : Place) (i n : ℕ) (rows : List Codes) (t : Table) (ds : List Data) → AllByRecursion (KnowsEach l.texts) ds → IsRead l columns (table_of rows) n → in_turn (row_added l.texts) place i (table_of rows) ds ≡ Ok t → IsRead l columns t (n + length ds)
  all_back place i n rows t [] known h e = let same : table_of rows ≡ t = cc in let zero_more : n + 0 ≡ n = omega arith in subst (λ m. IsRead l columns t m) (sym zero_more) (subst (λ x. IsRead l columns x n) same h)
  all_back place i n rows t (d ∷ ds) known h e =
      let b = bound (row_added l.texts (table_of rows) (in_element place i) d) (λ u. in_turn (row_added l.texts) place (i + 1) u ds) t e in
      let v = bound (values l.texts columns.kinds (in_element place i) d) _ b.0 b.1 in
      let c = tested (is_none (row_at columns.key (at_columns columns.key v.0) rows)) Key (in_element place i) _ b.0 v.2 in
      let same : table_of (put_row columns.key v.0 rows) ≡ b.0 = let f = c.1 in cc in
      let next : IsRead l columns (table_of (put_row columns.key v.0 rows)) (suc n) = record {
        same_columns = refl;
        keyed = keyed_put columns.key v.0 rows h.keyed;
        back = λ u has. ⊎_elim (λ is. subst (IsReadBack l columns.kinds) (sym is) (row_back l columns.kinds (in_element place i) d v.0 known.0 v.1)) (h.back u) (put_only columns.key v.0 u rows has);
        many = let one = put_length columns.key v.0 rows in let most = h.many in omega (arith, one, most);
      } in
      let rest = all_back place (i + 1) (suc n) (put_row columns.key v.0 rows) t ds known.1 next (ap (λ x. in_turn (row_added l.texts) place (i + 1) x ds) same ∙ b.2) in
      let count : suc n + length ds ≡ n + suc (length ds) = omega arith in
      subst (λ m. IsRead l columns t m) count rest

  -- ---- rows in order

  middle : {X : Type 0} (P : X → Type 0) (xs : List X) (y : X) (ys : List X) → AllByRecursion P (xs ++ y ∷ ys) → P y
  middle P [] y ys h = h.0
  middle P (x ∷ xs) y ys h = middle P xs y ys h.1

  below : (before : List Codes) (t : Codes) (rest : List Codes) → IsKeyed columns.key (before ++ t ∷ rest) → AllBelow columns.key (at_columns columns.key t) before
  below [] t rest h = tt
  below (u ∷ before) t rest h = (middle (IsBefore columns.key u) before t rest h.0, below before t rest h.1)

  ordered : (before rows : List Codes) (place : Place) (i : ℕ) → IsKeyed columns.key (before ++ rows) → ((u : Codes) → Has u rows → IsReadBack l columns.kinds u)
      → in_turn (row_added l.texts) place i (table_of before) (rows_data l columns.kinds rows) ≡ Ok (table_of (before ++ rows))
  unfolding Has
  ordered before [] place i keyed back = ap (λ r. Ok (table_of r)) (sym (append-nil before))
  ordered before (t ∷ rows) place i keyed back =
      let q = in_element place i in
      let key = columns.key in
      let read = back t (inl refl) q in
      let low = below before t rows keyed in
      let none = none_below key (at_columns key t) before low in
      let put = put_behind key t before low in
      let step : row_added l.texts (table_of before) q (values_data l columns.kinds t) ≡ Ok (table_of (before ++ t ∷ [])) =
      ap (λ r. r >>= λ u. check (is_none (row_at key (at_columns key u) before)) Key q >> Ok (table_of (put_row key u before))) read
      ∙ ap (λ o. check (is_none o) Key q >> Ok (table_of (put_row key t before))) none
      ∙ ap (λ r. Ok (table_of r)) put
      in
      let rest = ordered (before ++ t ∷ []) rows place (i + 1) (subst (IsKeyed key) (sym (append_assoc before (t ∷ []) rows)) keyed) (λ u h. back u (inr h)) in
      ap (λ r. r >>= λ u. in_turn (row_added l.texts) place (i + 1) u (rows_data l columns.kinds rows)) step
      ∙ rest
      ∙ ap (λ r. Ok (table_of r)) (append_assoc before (t ∷ []) rows)

-- ---- the list

-- a list with few elements is read as they are
pub elements_back : (most : ℕ) (place : Place) (ds : List Data) → length ds ≤ most → elements 0 most place (list_data ds) ≡ Ok ds
elements_back most place ds few =
    let fits : nat_le (length ds) most ≡ true = grind (arith, nat_tests, few) in
    let some : nat_le 0 (length ds) ≡ true = grind (arith, nat_tests) in
    ap (λ xs. check (nat_le 0 (length xs)) Shape place >> (check (nat_le (length xs) most) Limit place >> Ok xs)) (listed_again ds)
    ∙ ap (λ c. check c Shape place >> (check (nat_le (length ds) most) Limit place >> Ok ds)) some
    ∙ ap (λ c. check c Limit place >> Ok ds) fits

-- a list that was read has few elements
elements_few : (most : ℕ) (place : Place) (d : Data) (ds : List Data) → elements 0 most place d ≡ Ok ds → length ds ≤ most
elements_few most place d ds e =
    let b = bound (listed place d) _ ds e in
    let low = tested (nat_le 0 (length b.0)) Shape place _ ds b.2 in
    let high = tested (nat_le (length b.0) most) Limit place _ ds low.1 in
    let same : b.0 ≡ ds = let f = high.1 in cc in
    let fits : nat_le (length ds) most ≡ true = ap (λ (xs : List Data). nat_le (length xs) most) (sym same) ∙ high.0 in
    grind (arith, nat_tests, fits)

pub rows_kept : (l : Labels) (columns : Columns) (place : Place) (d : Data) (table : Table) → KnowsRows l.texts d → rows_in l.texts (let t : Table = record { columns = columns; rows = [] } in t) place d ≡ Ok table → table.columns ≡ columns
unfolding Has
rows_kept l columns place d table known e =
    let b = bound (elements 0 4096 place d) _ table e in
    let ds = listed_is place d b.0 (elements_listed 0 4096 place d b.0 b.1) in
    let none : IsRead l columns (table_of l columns []) 0 = record { same_columns = refl; keyed = tt; back = λ u h. absurd h; many = omega arith } in
    let r = all_back l columns place 0 0 [] table b.0 (known b.0 ds) none b.2 in
    r.same_columns

pub rows_again : (l : Labels) (columns : Columns) (place : Place) (d : Data) (table : Table) → KnowsRows l.texts d → rows_in l.texts (let t : Table = record { columns = columns; rows = [] } in t) place d ≡ Ok table
    → rows_in l.texts (let t : Table = record { columns = columns; rows = [] } in t) place (list_data (rows_data l columns.kinds table.rows)) ≡ Ok table
unfolding Has
rows_again l columns place d table known e =
    let b = bound (elements 0 4096 place d) _ table e in
    let ds = listed_is place d b.0 (elements_listed 0 4096 place d b.0 b.1) in
    let none : IsRead l columns (table_of l columns []) 0 = record { same_columns = refl; keyed = tt; back = λ u h. absurd h; many = omega arith } in
    let r = all_back l columns place 0 0 [] table b.0 (known b.0 ds) none b.2 in
    let read_few = elements_few 4096 place d b.0 b.1 in
    let most = r.many in
    let count = length-map table.rows (values_data l columns.kinds) in
    let few : length (rows_data l columns.kinds table.rows) ≤ 4096 = omega (arith, read_few, most, count) in
    let whole : table_of l columns table.rows ≡ table = ap (λ (c : Columns). let t : Table = record { columns = c; rows = table.rows } in t) (sym r.same_columns) in
    ap (λ o. o >>= in_turn (row_added l.texts) place 0 (table_of l columns [])) (elements_back 4096 place (rows_data l columns.kinds table.rows) few)
    ∙ ordered l columns [] table.rows place 0 r.keyed r.back
    ∙ ap Ok whole
