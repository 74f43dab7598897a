-- What the updates of a source keep when they are read.
--
-- `work_read`: transactions that were read are valid in turn on any relations that agree with those of the source where its reading begins,
-- within their limits, and of relations of the source alone (`IsWork`). The reader makes them in the relations of all sources so far, of
-- which the earlier ones have changed; so what is kept is that both lists of relations agree from the first of the source's on.
use Rattle.std.proofs.Common.{◌≡◌, ◌⊎◌, inl, inr, ℕ, zero, suc, ◌+◌, ◌<◌, ◌≤◌, ◌&&◌, ◌==◌, nat_le, not, Bool, true, false, cond, codes, bytes_eq, List, [], ◌∷◌, ◌++◌, length, slice_get, is_none, option_map, Option, Some, None, Ok, refl, sym, ap, ap₂, subst, ◌∙◌, arith, eq-eqb}
use Rattle.std.specs.List.{list_all, AllByRecursion}
use Rattle.std.proofs.lemmas.List.Sums.{fold-append}
use Rattle.serde_json.specs.Data.{Data}
use Rattle.whips_lists.specs.Lists.{changed_at}
use Rattle.whips_lists.proofs.Members.{all_has}
use Rattle.whips_model.specs.Tuples.{Codes, Columns, at_columns, has_key, row_at}
use Rattle.whips_model.specs.Relation.{Table}
use Rattle.whips_model.proofs.Keyed.{widths_put, widths_filter}
use Rattle.whips_choices.proofs.Rows.{row_found}
use Rattle.whips_rel.specs.declared.update.Update.{Update}
use Rattle.whips_rel.specs.declared.update.Update.TheVariants.{Insert, Delete}
use Rattle.whips_rel.specs.Updates.{relation_of, tuple_of}
use Rattle.whips_states.specs.States.{Updates, with_row, without_row, updated, applied, all_applied, IsValidIn, IsValid, AreValid, AreAllValid}
use Rattle.whips_view.specs.ViewDefs.{is_within, columns_in}
use Rattle.whips_setup.specs.Limits.{has_numbers_within}
use Rattle.whips_setup.specs.Workloads.{is_of_width, is_of_numbers, has_width, is_update_within, is_transaction_within}
use Rattle.whips_reading.specs.declared.place.Code.TheVariants.{Shape, Name, Present, Absent}
use Rattle.whips_reading.specs.declared.place.Member.TheVariants as member
use Rattle.whips_reading.specs.Json.{Text, is_text}
use Rattle.whips_reading.specs.Places.{Place, in_member, in_element}
use Rattle.whips_reading.specs.Reading.{Read, ◌>>=◌, refuse, check, there, listed, triple}
use Rattle.whips_reading.specs.Names.{text_in, named}
use Rattle.whips_relation_reading.specs.Rows.{values}
use Rattle.whips_relation_reading.specs.Relations.{RelationForm, relation_names}
use Rattle.whips_update_reading.specs.Updates.{key_kinds, change_of, change_in, row_inserted, row_deleted, update_of, update_at, Scope, Work, with_update, target_in, update_from, update_added, updates_added, all_added, entry_from, entry_added, with_transaction, transaction_added, transactions_added}
use Rattle.whips_update_reading.specs.Sources.{begun, source_work}
use Rattle.whips_script_laws.proofs.Parts.{bound, followed, tested, there_is, list_read, member_or_read}
use Rattle.whips_script_laws.proofs.Appended.{one_longer, all_more, each_append}
use Rattle.whips_script_laws.proofs.Viewed.{named_below}
use Rattle.whips_script_laws.proofs.Related.{IsRowOf, IsGood, values_read}
use Rattle.std.proofs.lemmas.List.{length-map}

-- ---- a relation that changes

-- what becomes of the relation at place i when that at place r changes
edit : ℕ → ℕ → (Table → Table) → Option Table → Option Table
edit zero zero f o = option_map f o
edit zero (suc i) f o = o
edit (suc r) zero f o = o
edit (suc r) (suc i) f o = edit r i f o

module _ (f : Table → Table) where
  edit_none : (r i : ℕ) → edit r i f None ≡ None
  unfolding edit
  edit_none zero zero = refl
  edit_none zero (suc i) = refl
  edit_none (suc r) zero = refl
  edit_none (suc r) (suc i) = edit_none r i

  changed_get : (db : List Table) (r i : ℕ) → slice_get (changed_at r f db) i ≡ edit r i f (slice_get db i)
  unfolding edit
  changed_get [] r i = sym (edit_none r i)
  changed_get (t ∷ db) zero zero = refl
  changed_get (t ∷ db) zero (suc i) = refl
  changed_get (t ∷ db) (suc r) zero = refl
  changed_get (t ∷ db) (suc r) (suc i) = changed_get db r i

  changed_alike : (db tables : List Table) (r i : ℕ) → slice_get db i ≡ slice_get tables i → slice_get (changed_at r f db) i ≡ slice_get (changed_at r f tables) i
  changed_alike db tables r i e = changed_get db r i ∙ ap (edit r i f) e ∙ sym (changed_get tables r i)

  columns_changed : ((t : Table) → (f t).columns ≡ t.columns) → (db : List Table) (r i : ℕ) → columns_in (slice_get (changed_at r f db) i) ≡ columns_in (slice_get db i)
  columns_changed keeps [] r i = refl
  columns_changed keeps (t ∷ db) zero zero = ap Some (keeps t)
  columns_changed keeps (t ∷ db) zero (suc i) = refl
  columns_changed keeps (t ∷ db) (suc r) zero = refl
  columns_changed keeps (t ∷ db) (suc r) (suc i) = columns_changed keeps db r i

  changed_length : (db : List Table) (r : ℕ) → length (changed_at r f db) ≡ length db
  changed_length [] r = refl
  changed_length (t ∷ db) zero = refl
  changed_length (t ∷ db) (suc r) = ap suc (changed_length db r)

  each_changed : (P : Table → Type 0) (db : List Table) (r : ℕ) → AllByRecursion P db → ((t : Table) → slice_get db r ≡ Some t → P t → P (f t)) → AllByRecursion P (changed_at r f db)
  each_changed P [] r h k = tt
  each_changed P (t ∷ db) zero h k = (k t refl h.0, h.1)
  each_changed P (t ∷ db) (suc r) h k = (h.0, each_changed P db r h.1 k)

updated_alike : (db tables : List Table) (u : Update) (i : ℕ) → slice_get db i ≡ slice_get tables i → slice_get (updated db u) i ≡ slice_get (updated tables u) i
updated_alike db tables (Insert r t) i e = changed_alike (with_row t) db tables r i e
updated_alike db tables (Delete r t) i e = changed_alike (without_row t) db tables r i e

length_kept : (db : List Table) (u : Update) → length (updated db u) ≡ length db
length_kept db (Insert r t) = changed_length (with_row t) db r
length_kept db (Delete r t) = changed_length (without_row t) db r

columns_updated : (db : List Table) (u : Update) (i : ℕ) → columns_in (slice_get (updated db u) i) ≡ columns_in (slice_get db i)
columns_updated db (Insert r t) i = columns_changed (with_row t) (λ x. refl) db r i
columns_updated db (Delete r t) i = columns_changed (without_row t) (λ x. refl) db r i

good_updated : (db : List Table) (u : Update) (table : Table) → slice_get db (relation_of u) ≡ Some table → IsRowOf table.columns (tuple_of u) → AllByRecursion IsGood db → AllByRecursion IsGood (updated db u)
good_updated db (Insert r t) table there row h = each_changed (with_row t) IsGood db r h (λ x is good. let same : table ≡ x = cc in widths_put (IsRowOf x.columns) x.columns.key t x.rows (subst (λ (y : Table). IsRowOf y.columns t) same row) good)
good_updated db (Delete r t) table there row h = each_changed (without_row t) IsGood db r h (λ x is good. widths_filter (IsRowOf x.columns) (λ s. not (has_key x.columns.key (at_columns x.columns.key t) s)) x.rows good)

each_at : (P : Table → Type 0) (db : List Table) (i : ℕ) (t : Table) → AllByRecursion P db → slice_get db i ≡ Some t → P t
each_at P [] i t h e = absurd (cc)
each_at P (x ∷ db) zero t h e = let same : x ≡ t = cc in subst P same h.0
each_at P (x ∷ db) (suc i) t h e = each_at P db i t h.1 e

-- ---- one update

-- the update is one of relation q, a row of it, and valid in it
record IsMade (q : ℕ) (table : Table) (u : Update) : Type 0 where
  relation : relation_of u ≡ q
  row : IsRowOf table.columns (tuple_of u)
  valid : IsValidIn table u

none_there : (o : Option Codes) → is_none o ≡ true → o ≡ None
none_there None e = refl
none_there (Some t) e = absurd (cc)

module _ (texts : List Text) (table : Table) (q : ℕ) (place : Place) (d : Data) (u : Update) where
  insert_read : (row_inserted texts table place d >>= λ t. Ok (Insert q t)) ≡ Ok u → IsMade q table u
  insert_read e =
      let t = bound (row_inserted texts table place d) (λ t. Ok (Insert q t)) u e in
      let v = bound (values texts table.columns.kinds (in_element place 2) d) _ t.0 t.1 in
      let c = tested (is_none (row_at table.columns.key (at_columns table.columns.key v.0) table.rows)) Present place _ t.0 v.2 in
      let same_row : v.0 ≡ t.0 = cc in
      let row = values_read texts table.columns.kinds (in_element place 2) d v.0 v.1 in
      let made : IsMade q table (Insert q v.0) = record { relation = refl; row = row; valid = (row.0, none_there (row_at table.columns.key (at_columns table.columns.key v.0) table.rows) c.0) } in
      let same : Insert q v.0 ≡ u = cc in
      subst (IsMade q table) same made

  delete_read : IsGood table → (row_deleted texts table place d >>= λ t. Ok (Delete q t)) ≡ Ok u → IsMade q table u
  delete_read good e =
      let t = bound (row_deleted texts table place d) (λ t. Ok (Delete q t)) u e in
      let k = bound (values texts (key_kinds table.columns.kinds table.columns.key) (in_element place 2) d) _ t.0 t.1 in
      let is = there_is (row_at table.columns.key k.0 table.rows) Absent place t.0 k.2 in
      let found = row_found table.columns.key k.0 t.0 table.rows is in
      let row = all_has (IsRowOf table.columns) table.rows good t.0 found.0 in
      let made : IsMade q table (Delete q t.0) = record { relation = refl; row = row; valid = (row.0, ap (λ x. row_at table.columns.key x table.rows) found.1 ∙ is) } in
      let same : Delete q t.0 ≡ u = cc in
      subst (IsMade q table) same made

-- what an update does is one of two
one_of : {C : Type 0} (c : C) (make : C → Read Update) (u : Update) (P : Type 0) (first second : Bool) (a b : C) (place : Place) → cond first (Ok a) (cond second (Ok b) (refuse {A = C} Shape place)) ≡ Ok c → make c ≡ Ok u → (make a ≡ Ok u → P) → (make b ≡ Ok u → P) → P
one_of c make u P true second a b place e m f g = let same : a ≡ c = cc in f (ap make same ∙ m)
one_of c make u P false true a b place e m f g = let same : b ≡ c = cc in g (ap make same ∙ m)
one_of c make u P false false a b place e m f g = absurd (cc)

read_same : {A : Type 0} (a b : A) → ◌≡◌ {A = Read A} (Ok a) (Ok b) → a ≡ b
read_same a b e = cc

along : {A B : Type 0} {a b : A} → a ≡ b → (f : A → B) → f a ≡ f b
along e f = ap f e

valid_more : (db : List Table) (t : Updates) (u : Update) → AreValid db t → IsValid (applied db t) u → AreValid db (t ++ u ∷ [])
valid_more db [] u h k = (k, tt)
valid_more db (v ∷ t) u h k = (h.0, valid_more (updated db v) t u h.1 k)

all_valid_more : (db : List Table) (ts : List Updates) (t : Updates) → AreAllValid db ts → AreValid (all_applied db ts) t → AreAllValid db (ts ++ t ∷ [])
all_valid_more db [] t h k = (k, tt)
all_valid_more db (x ∷ ts) t h k = (h.0, all_valid_more (applied db x) ts t h.1 k)

-- ---- all updates of a source

module _ (scope : Scope) (db : List Table) (total : ℕ) (whole : scope.first + length scope.relations ≡ total) where
  -- the update is of a relation of the source
  abbrev pub IsOwn : Update → Type 0
  IsOwn u = (scope.first ≤ relation_of u) × (relation_of u < total)

  -- n transactions and m more updates that were read, where all relations before them are these
  pub record IsWork (n m : ℕ) (work : Work) : Type 0 where
    pub size : length work.tables ≡ total
    pub count : length work.transactions ≡ n
    pub made : length work.made ≡ m
    pub good : AllByRecursion IsGood work.tables
    pub same : (i : ℕ) → scope.first ≤ i → i < total → slice_get (applied (all_applied db work.transactions) work.made) i ≡ slice_get work.tables i
    pub columns : (i : ℕ) → scope.first ≤ i → i < total → columns_in (slice_get db i) ≡ columns_in (slice_get work.tables i)
    pub own : AllByRecursion (AllByRecursion IsOwn) work.transactions
    pub own_made : AllByRecursion IsOwn work.made
    pub valid : AreAllValid db work.transactions
    pub valid_made : AreValid (all_applied db work.transactions) work.made
    pub within : list_all (is_transaction_within db) work.transactions ≡ true
    pub within_made : list_all (is_update_within db) work.made ≡ true

  with_one : (n m : ℕ) (work : Work) (u : Update) (table : Table) → IsOwn u → slice_get work.tables (relation_of u) ≡ Some table → IsRowOf table.columns (tuple_of u) → IsValidIn table u → IsWork n m work → IsWork n (suc m) (with_update work u)
  with_one n m work u table own there row valid h =
      let before = all_applied db work.transactions in
      let after : applied before (work.made ++ u ∷ []) ≡ updated (applied before work.made) u = fold-append updated before work.made (u ∷ []) in
      let is_valid : IsValid (applied before work.made) u = record { table = table; there = h.same (relation_of u) own.0 own.1 ∙ there; valid = valid } in
      let columns : columns_in (slice_get db (relation_of u)) ≡ Some table.columns = h.columns (relation_of u) own.0 own.1 ∙ ap columns_in there in
      let is_within_limits : is_update_within db u ≡ true = ap (λ c. is_of_width c (tuple_of u) && is_of_numbers c (tuple_of u)) columns ∙ ap₂ (λ a b. a && b) (eq-eqb (length (tuple_of u)) (length table.columns.kinds) row.0) row.1 in
      record {
        size = length_kept work.tables u ∙ h.size;
        count = h.count;
        made = one_longer work.made u m h.made;
        good = good_updated work.tables u table there row h.good;
        same = λ i low high. ap (λ l. slice_get l i) after ∙ updated_alike (applied before work.made) work.tables u i (h.same i low high);
        columns = λ i low high. h.columns i low high ∙ sym (columns_updated work.tables u i);
        own = h.own;
        own_made = each_append IsOwn work.made (u ∷ []) h.own_made (own, tt);
        valid = h.valid;
        valid_made = valid_more before work.made u h.valid_made is_valid;
        within = h.within;
        within_made = all_more (is_update_within db) work.made u h.within_made is_within_limits;
      }

  module _ (n : ℕ) where
    from_kept : (m : ℕ) (s t : Work) (place : Place) (p : Data × Data × Data) → IsWork n m s → update_from scope s place p ≡ Ok t → IsWork n (suc m) t
    from_kept m s t place p h e =
        let target = bound (target_in scope place p.0 p.1) _ t e in
        let u = bound (update_at scope.texts s.tables target.0.relation target.0.change place p.2) _ t target.2 in
        let change = bound (change_in (in_element place 0) p.0) _ target.0 target.1 in
        let word = bound (text_in (in_element place 0) p.0) (change_of (in_element place 0)) change.0 change.1 in
        let r = bound (named (relation_names scope.relations) (in_element place 1) p.1) _ target.0 change.2 in
        let q = scope.first + r.0 in
        let below = named_below (relation_names scope.relations) (in_element place 1) p.1 r.0 r.1 in
        let names = length-map scope.relations (λ (x : RelationForm). x.name) in
        let update : update_at scope.texts s.tables q change.0 place p.2 ≡ Ok u.0 = along (read_same _ target.0 r.2) (λ x. update_at scope.texts s.tables x.relation x.change place p.2) ∙ u.1 in
        let table = bound (there (slice_get s.tables q) Name (in_element place 1)) (λ x. update_of scope.texts x q change.0 place p.2) u.0 update in
        let is = there_is (slice_get s.tables q) Name (in_element place 1) table.0 table.1 in
        let good = each_at IsGood s.tables q table.0 h.good is in
        let made : IsMade q table.0 u.0 = one_of change.0 (λ c. update_of scope.texts table.0 q c place p.2) u.0 (IsMade q table.0 u.0) (bytes_eq word.0 (codes "insert")) (bytes_eq word.0 (codes "delete")) _ _ (in_element place 0) word.2 table.2
        (insert_read scope.texts table.0 q place p.2 u.0)
        (delete_read scope.texts table.0 q place p.2 u.0 good) in
        let relation = made.relation in
        let low : scope.first ≤ relation_of u.0 = omega (arith, relation) in
        let high : relation_of u.0 < total = omega (arith, relation, below, names, whole) in
        let same : with_update s u.0 ≡ t = cc in
        subst (IsWork n (suc m)) same (with_one n m s u.0 table.0 (low, high) (ap (slice_get s.tables) relation ∙ is) made.row made.valid h)

    update_kept : (m : ℕ) (s t : Work) (place : Place) (d : Data) → IsWork n m s → update_added scope s place d ≡ Ok t → IsWork n (suc m) t
    update_kept m s t place d h e = let p = bound (triple place d) (update_from scope s place) t e in from_kept m s t place p.0 h p.2

    -- 1 to 16 updates that were read
    abbrev AreSome : Work → Type 0
    AreSome work = (m : ℕ) × (nat_le 1 m ≡ true) × (nat_le m 16 ≡ true) × IsWork n m work

    one_read : (s t : Work) (place : Place) (d : Data) → IsWork n 0 s → update_added scope s place d ≡ Ok t → AreSome t
    one_read s t place d h e = (1, refl, refl, update_kept 0 s t place d h e)

    entry_read : (s t : Work) (place : Place) (d : Data) (ds : List Data) → IsWork n 0 s → entry_from scope s place d ds ≡ Ok t → AreSome t
    entry_read s t place d [] h e = one_read s t place d h e
    entry_read s t place d (a ∷ []) h e = one_read s t place d h e
    entry_read s t place d (a ∷ b ∷ []) h e =
        let f = followed (check (is_text _ a) Shape place) (updates_added scope s (in_element place 1) b) t e in
        list_read (update_added scope) (IsWork n) update_kept 1 16 (in_element place 1) s t b h f.2
    entry_read s t place d (a ∷ b ∷ c ∷ ds) h e = one_read s t place d h e

  with_all : (n m : ℕ) (work : Work) → nat_le 1 m ≡ true → nat_le m 16 ≡ true → IsWork n m work → IsWork (suc n) 0 (with_transaction work)
  with_all n m work low high h =
      let after : all_applied db (work.transactions ++ work.made ∷ []) ≡ applied (all_applied db work.transactions) work.made = fold-append applied db work.transactions (work.made ∷ []) in
      let counted : is_within 1 16 (length work.made) ≡ true = ap (λ k. is_within 1 16 k) h.made ∙ ap₂ (λ a b. a && b) low high in
      record {
        size = h.size;
        count = one_longer work.transactions work.made n h.count;
        made = refl;
        good = h.good;
        same = λ i least most. ap (λ l. slice_get l i) after ∙ h.same i least most;
        columns = h.columns;
        own = each_append (AllByRecursion IsOwn) work.transactions (work.made ∷ []) h.own (h.own_made, tt);
        own_made = tt;
        valid = all_valid_more db work.transactions work.made h.valid h.valid_made;
        valid_made = tt;
        within = all_more (is_transaction_within db) work.transactions work.made h.within (ap₂ (λ a b. a && b) counted h.within_made);
        within_made = refl;
      }

  transaction_kept : (n : ℕ) (s t : Work) (place : Place) (d : Data) → IsWork n 0 s → transaction_added scope s place d ≡ Ok t → IsWork (suc n) 0 t
  transaction_kept n s t place d h e =
      let w = bound (entry_added scope s place d) _ t e in
      let ds = bound (listed place d) (entry_from scope s place d) w.0 w.1 in
      let some = entry_read n s w.0 place d ds.0 h ds.2 in
      let same : with_transaction w.0 ≡ t = cc in
      subst (IsWork (suc n) 0) same (with_all n some.0 w.0 some.1 some.2 some.3)

  -- up to 4,096 transactions that were read
  abbrev pub AreFew : Work → Type 0
  AreFew work = (n : ℕ) × (nat_le n 4096 ≡ true) × IsWork n 0 work

  pub work_read : (tables : List Table) (place : Place) (d : Data) (work : Work) → IsWork 0 0 (begun scope tables) → source_work scope tables place d ≡ Ok work → AreFew work
  work_read tables place d work h e = elim (member_or_read member.Updates (transactions_added scope (begun scope tables)) place d work (begun scope tables) e) [
    | inl same ↦ subst AreFew same (0, refl, h)
    | inr some ↦ (let r = list_read (transaction_added scope) (λ n w. IsWork n 0 w) transaction_kept 0 4096 (in_member place member.Updates) (begun scope tables) work some.0 h some.1 in (r.0, r.2, r.3))
  ]
