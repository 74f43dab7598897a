-- Updates that are made in relations, and what follows where none is refused.
--
-- `is_workload`: a workload within its limits of which no update is refused is valid: each source updates its own relations alone, and each
-- update is valid on the relations after those before it (`IsWorkload`). `insert_made`, `insert_refused`, `delete_made`, `delete_refused`:
-- an update that is made, or refused, in its own relation is made, or refused, in all relations. `lengths_kept`, `all_widths_stay`: updates
-- keep the number of relations, and the widths that tuples must have.
--
-- The idea: an update is refused where it fails a test of its source or of the row with its key. So where none is refused, the tests say
-- what a valid update needs. Updates change rows and never columns, so tuples with the widths of the initial relations have those of all
-- later ones.
--
-- Five lemmas carry it: `valid_lists` (updates of which none is refused are valid), `own_lists` (and each is of its source's relations),
-- `lists_wide` (within the limits the widths are right), `set_changed` (a changed relation is put in its place) and `update_is` (an update
-- is refused as it is in its relation).
use Rattle.std.proofs.Common.{◌≡◌, ℕ, zero, suc, ◌&&◌, ◌==◌, nat_eq, nat_le, Bool, true, false, cond, List, [], ◌∷◌, length, set, get_or, slice_get, is_some, Option, Some, None, ◌≢◌, Result, Ok, Err, OnOk, IfErr, refl, sym, ap, ap₂, subst, ◌∙◌, arith, eqb-true, eq-eqb}
use Rattle.std.specs.Option.{option_or}
use Rattle.std.specs.List.{list_all, AllByRecursion}
use lib.Pointwise.{pointwise}
use Rattle.std.proofs.lemmas.Bool.{and_parts}
use Rattle.std.proofs.lemmas.Option.{slice_get_within, slice_get_read}
use Rattle.whips_model.specs.Tuples.{Codes, at_columns, row_at}
use Rattle.whips_model.specs.Relation.{Table}
use Rattle.whips_rel.specs.declared.update.Update.{Update}
use Rattle.whips_rel.specs.declared.update.Update.TheVariants.{Insert, Delete}
use Rattle.whips_rel.specs.Updates.{relation_of, tuple_of}
use Rattle.whips_states.specs.States.{Updates, with_row, without_row, updated, applied, IsValidIn, IsValid, AreValid, AreAllValid}
use Rattle.whips_lists.specs.Lists.{changed_at}
use Rattle.whips_view.specs.ViewDefs.{columns_in, is_within}
use Rattle.whips_setup.specs.declared.error.BatchErr.{BatchErr}
use Rattle.whips_setup.specs.declared.error.BatchErr.TheVariants.{Foreign, Present, Absent, NoMemory}
use Rattle.whips_setup.specs.declared.validity.ItemPlace.{ItemPlace}
use Rattle.whips_setup.specs.Setups.{SetupData}
use Rattle.whips_setup.specs.Limits.{is_source}
use Rattle.whips_setup.specs.Workloads.{is_of_width, is_of_numbers, is_update_within, is_transaction_within, has_width, is_row, row_refusal, refusal_in, update_refusal, transaction_refusal, list_refusal, lists_refusal, is_list_within, AreOwn, IsWorkload}

-- all tuples of the transactions have the widths of their relations
abbrev pub have_widths : List Table → List Updates → Bool
have_widths db list = list_all (list_all (has_width db)) list

-- ---- a relation that changes

module _ {X : Type 0} (f : X → X) where
  -- putting the changed element in its place is the change of the list
  pub set_changed : (xs : List X) (i : ℕ) (x : X) → slice_get xs i ≡ Some x → set xs i (f x) ≡ changed_at i f xs
  set_changed [] i x e = refl
  set_changed (y ∷ xs) zero x e = let same : y ≡ x = cc in ap (λ z. f z ∷ xs) (sym same)
  set_changed (y ∷ xs) (suc i) x e = ap (λ l. y ∷ l) (set_changed xs i x e)

  changed_length : (xs : List X) (i : ℕ) → length (changed_at i f xs) ≡ length xs
  changed_length [] i = refl
  changed_length (x ∷ xs) zero = refl
  changed_length (x ∷ xs) (suc i) = ap suc (changed_length xs i)

columns_changed : (f : Table → Table) → ((t : Table) → (f t).columns ≡ t.columns) → (db : List Table) (i r : ℕ) → columns_in (slice_get (changed_at i f db) r) ≡ columns_in (slice_get db r)
columns_changed f keeps [] i r = refl
columns_changed f keeps (t ∷ db) zero zero = ap Some (keeps t)
columns_changed f keeps (t ∷ db) zero (suc r) = refl
columns_changed f keeps (t ∷ db) (suc i) zero = refl
columns_changed f keeps (t ∷ db) (suc i) (suc r) = columns_changed f keeps db i r

columns_kept : (db : List Table) (u : Update) (r : ℕ) → columns_in (slice_get (updated db u) r) ≡ columns_in (slice_get db r)
columns_kept db (Insert q t) r = columns_changed (with_row t) (λ table. refl) db q r
columns_kept db (Delete q t) r = columns_changed (without_row t) (λ table. refl) db q r

pub length_kept : (db : List Table) (u : Update) → length (updated db u) ≡ length db
length_kept db (Insert q t) = changed_length (with_row t) db q
length_kept db (Delete q t) = changed_length (without_row t) db q

pub lengths_kept : (db : List Table) (t : Updates) → length (applied db t) ≡ length db
lengths_kept db [] = refl
lengths_kept db (u ∷ t) = lengths_kept (updated db u) t ∙ length_kept db u

width_kept : (db : List Table) (u v : Update) → has_width (updated db u) v ≡ has_width db v
width_kept db u v = ap (λ c. is_of_width c (tuple_of v)) (columns_kept db u (relation_of v))

pub widths_kept : (db : List Table) (u : Update) (t : Updates) → list_all (has_width (updated db u)) t ≡ list_all (has_width db) t
widths_kept db u [] = refl
widths_kept db u (v ∷ t) = ap₂ (λ a b. a && b) (width_kept db u v) (widths_kept db u t)

widths_stay : (db : List Table) (t ts : Updates) → list_all (has_width (applied db t)) ts ≡ list_all (has_width db) ts
widths_stay db [] ts = refl
widths_stay db (u ∷ t) ts = widths_stay (updated db u) t ts ∙ widths_kept db u ts

pub all_widths_stay : (db : List Table) (t : Updates) (list : List Updates) → have_widths (applied db t) list ≡ have_widths db list
all_widths_stay db t [] = refl
all_widths_stay db t (ts ∷ list) = ap₂ (λ a b. a && b) (widths_stay db t ts) (all_widths_stay db t list)

-- the tuple has the width of its relation
pub width_at : (db : List Table) (u : Update) (table : Table) → slice_get db (relation_of u) ≡ Some table → has_width db u ≡ true → length (tuple_of u) ≡ length table.columns.kinds
width_at db u table there e = eqb-true (length (tuple_of u)) (length table.columns.kinds) (sym (ap (λ o. is_of_width (columns_in o) (tuple_of u)) there) ∙ e)

-- updates within their limits have the widths of their relations
all_wide : (db : List Table) (t : Updates) → list_all (is_update_within db) t ≡ true → list_all (has_width db) t ≡ true
all_wide db [] e = refl
all_wide db (u ∷ t) e =
    let both = and_parts (is_update_within db u) (list_all (is_update_within db) t) e in
    ap₂ (λ a b. a && b) (and_parts (has_width db u) (is_of_numbers (columns_in (slice_get db (relation_of u))) (tuple_of u)) both.0).0 (all_wide db t both.1)

pub list_wide : (db : List Table) (list : List Updates) → list_all (is_transaction_within db) list ≡ true → have_widths db list ≡ true
list_wide db [] e = refl
list_wide db (t ∷ list) e =
    let both = and_parts (is_transaction_within db t) (list_all (is_transaction_within db) list) e in
    ap₂ (λ a b. a && b) (all_wide db t (and_parts (is_within 1 16 (length t)) (list_all (is_update_within db) t) both.0).1) (list_wide db list both.1)

lists_wide : (db : List Table) (work : List (List Updates)) → list_all (is_list_within db) work ≡ true → list_all (have_widths db) work ≡ true
lists_wide db [] e = refl
lists_wide db (list ∷ work) e =
    let both = and_parts (is_list_within db list) (list_all (is_list_within db) work) e in
    ap₂ (λ a b. a && b) (list_wide db list (and_parts (nat_le (length list) 4096) (list_all (is_transaction_within db) list) both.0).1) (lists_wide db work both.1)

-- ---- where nothing is refused

or_none : (a b : Option BatchErr) → option_or a b ≡ None → (a ≡ None) × (b ≡ None)
or_none None b e = (refl, e)
or_none (Some x) b e = absurd (cc)

passed : (b : Bool) (x : BatchErr) (rest : Option BatchErr) → cond b rest (Some x) ≡ None → (b ≡ true) × (rest ≡ None)
passed true x rest e = (refl, e)
passed false x rest e = absurd (cc)

not_there : (o : Option Codes) (x : BatchErr) → cond (is_some o) (Some x) None ≡ None → o ≡ None
not_there None x e = refl
not_there (Some t) x e = absurd (cc)

same_codes : (a b : Codes) → pointwise nat_eq a b ≡ true → a ≡ b
same_codes [] [] e = refl
same_codes [] (y ∷ b) e = absurd (cc)
same_codes (x ∷ a) [] e = absurd (cc)
same_codes (x ∷ a) (y ∷ b) e =
    let both = and_parts (nat_eq x y) (pointwise nat_eq a b) e in
    ap₂ (λ z l. z ∷ l) (eqb-true x y both.0) (same_codes a b both.1)

row_is : (t : Codes) (o : Option Codes) → is_row t o ≡ true → o ≡ Some t
row_is t None e = absurd (cc)
row_is t (Some row) e = ap Some (same_codes row t e)

valid_in : (at : ItemPlace) (table : Table) (u : Update) → row_refusal at table u ≡ None → length (tuple_of u) ≡ length table.columns.kinds → IsValidIn table u
valid_in at table (Insert r t) e w = (w, not_there (row_at table.columns.key (at_columns table.columns.key t) table.rows) (Present at.source at.place at.item) e)
valid_in at table (Delete r t) e w = (w, row_is t (row_at table.columns.key (at_columns table.columns.key t) table.rows) (passed (is_row t (row_at table.columns.key (at_columns table.columns.key t) table.rows)) (Absent at.source at.place at.item) None e).0)

valid_update : (homes : List ℕ) (at : ItemPlace) (db : List Table) (u : Update) → update_refusal homes at db u ≡ None → has_width db u ≡ true → IsValid db u
valid_update homes at db u e w = go (slice_get db (relation_of u)) refl (passed (is_source at.source (slice_get homes (relation_of u))) (Foreign at.source at.place at.item) (refusal_in at (slice_get db (relation_of u)) u) e).1
  where
    go : (o : Option Table) → slice_get db (relation_of u) ≡ o → refusal_in at o u ≡ None → IsValid db u
    go None is f = absurd (cc)
    go (Some table) is f = record { table = table; there = is; valid = valid_in at table u f (width_at db u table is w) }

valid_transaction : (homes : List ℕ) (at : ItemPlace) (db : List Table) (t : Updates) → transaction_refusal homes at db t ≡ None → list_all (has_width db) t ≡ true → AreValid db t
valid_transaction homes at db [] e w = tt
valid_transaction homes at db (u ∷ t) e w =
    let next : ItemPlace = record at { item = suc at.item } in
    let parts = or_none (update_refusal homes at db u) (transaction_refusal homes next (updated db u) t) e in
    let widths = and_parts (has_width db u) (list_all (has_width db) t) w in
    (valid_update homes at db u parts.0 widths.0, valid_transaction homes next (updated db u) t parts.1 (widths_kept db u t ∙ widths.1))

valid_list : (homes : List ℕ) (source place : ℕ) (db : List Table) (list : List Updates) → list_refusal homes source place db list ≡ None → have_widths db list ≡ true → AreAllValid db list
valid_list homes source place db [] e w = tt
valid_list homes source place db (t ∷ list) e w =
    let at : ItemPlace = record { source = source; place = place; item = 1 } in
    let parts = or_none (transaction_refusal homes at db t) (list_refusal homes source (suc place) (applied db t) list) e in
    let widths = and_parts (list_all (has_width db) t) (have_widths db list) w in
    (valid_transaction homes at db t parts.0 widths.0, valid_list homes source (suc place) (applied db t) list parts.1 (all_widths_stay db t list ∙ widths.1))

valid_lists : (s : SetupData) (source : ℕ) (work : List (List Updates)) → lists_refusal s source work ≡ None → list_all (have_widths s.initial) work ≡ true → AllByRecursion (AreAllValid s.initial) work
valid_lists s source [] e w = tt
valid_lists s source (list ∷ work) e w =
    let parts = or_none (list_refusal s.homes source 1 s.initial list) (lists_refusal s (suc source) work) e in
    let widths = and_parts (have_widths s.initial list) (list_all (have_widths s.initial) work) w in
    (valid_list s.homes source 1 s.initial list parts.0 widths.0, valid_lists s (suc source) work parts.1 widths.1)

home_is : (source : ℕ) (o : Option ℕ) → is_source source o ≡ true → o ≡ Some source
home_is source None e = absurd (cc)
home_is source (Some home) e = ap Some (eqb-true home source e)

own_transaction : (homes : List ℕ) (at : ItemPlace) (db : List Table) (t : Updates) → transaction_refusal homes at db t ≡ None → AllByRecursion (λ u. slice_get homes (relation_of u) ≡ Some at.source) t
own_transaction homes at db [] e = tt
own_transaction homes at db (u ∷ t) e =
    let next : ItemPlace = record at { item = suc at.item } in
    let parts = or_none (update_refusal homes at db u) (transaction_refusal homes next (updated db u) t) e in
    let test = passed (is_source at.source (slice_get homes (relation_of u))) (Foreign at.source at.place at.item) (refusal_in at (slice_get db (relation_of u)) u) parts.0 in
    (home_is at.source (slice_get homes (relation_of u)) test.0, own_transaction homes next (updated db u) t parts.1)

own_list : (homes : List ℕ) (source place : ℕ) (db : List Table) (list : List Updates) → list_refusal homes source place db list ≡ None → AllByRecursion (AllByRecursion (λ u. slice_get homes (relation_of u) ≡ Some source)) list
own_list homes source place db [] e = tt
own_list homes source place db (t ∷ list) e =
    let at : ItemPlace = record { source = source; place = place; item = 1 } in
    let parts = or_none (transaction_refusal homes at db t) (list_refusal homes source (suc place) (applied db t) list) e in
    (own_transaction homes at db t parts.0, own_list homes source (suc place) (applied db t) list parts.1)

own_lists : (s : SetupData) (source : ℕ) (work : List (List Updates)) → lists_refusal s source work ≡ None → AreOwn s.homes source work
own_lists s source [] e = tt
own_lists s source (list ∷ work) e =
    let parts = or_none (list_refusal s.homes source 1 s.initial list) (lists_refusal s (suc source) work) e in
    (own_list s.homes source 1 s.initial list parts.0, own_lists s (suc source) work parts.1)

-- a workload that isn't refused is valid
pub is_workload : (s : SetupData) (work : List (List Updates)) → length work ≡ s.sources → list_all (is_list_within s.initial) work ≡ true → lists_refusal s 0 work ≡ None → IsWorkload s work
is_workload s work count within e =
    let counted : (length work == s.sources) ≡ true = eq-eqb (length work) s.sources count in
    record { accepted = rw (counted, within) e; own = own_lists s 0 work e; valid = valid_lists s 0 work e (lists_wide s.initial work within) }

-- ---- an update that is made in its relation

on_ok : (r : Result (Unit {0}) BatchErr) (P Q : Type 0) → (P → Q) → OnOk r P → OnOk r Q
on_ok (Ok x) P Q f p = f p
on_ok (Err e) P Q f p = tt

if_err : (r : Result (Unit {0}) BatchErr) (P Q : BatchErr → Type 0) → ((e : BatchErr) → P e → Q e) → IfErr r P → IfErr r Q
if_err (Ok x) P Q f p = tt
if_err (Err e) P Q f p = f e p

module _ (homes : List ℕ) (at : ItemPlace) (db : List Table) (u : Update) (n q : ℕ) (t : Codes) (table after : Table) (r : Result (Unit {0}) BatchErr)
    (number : n ≡ relation_of u) (lengths : length homes ≡ length db) (source : is_source at.source (slice_get homes n) ≡ true) (value : table ≡ get_or db n table) where
  there : slice_get db n ≡ Some table
  there = slice_get_read db (length db) n table refl (omega (arith, lengths, slice_get_within homes n at.source (home_is at.source (slice_get homes n) source))) value

  update_is : (v : Update) → relation_of v ≡ n → update_refusal homes at db v ≡ row_refusal at table v
  update_is v e =
      ap (λ m. cond (is_source at.source (slice_get homes m)) (refusal_in at (slice_get db m) v) (Some (Foreign at.source at.place at.item))) e
      ∙ ap (λ b. cond b (refusal_in at (slice_get db n) v) (Some (Foreign at.source at.place at.item))) source
      ∙ ap (λ o. refusal_in at o v) there

  abbrev Made : Update → Type 0
  Made v = OnOk r ((update_refusal homes at db v ≡ None) × (set db n after ≡ updated db v))

  abbrev Refused : Update → Type 0
  Refused v = IfErr r (λ e. e ≢ NoMemory → update_refusal homes at db v ≡ Some e)

  insert_is : u ≡ Insert q t → u ≡ Insert n t
  insert_is is = is ∙ ap (λ m. Insert m t) (sym (number ∙ ap relation_of is))

  delete_is : u ≡ Delete q t → u ≡ Delete n t
  delete_is is = is ∙ ap (λ m. Delete m t) (sym (number ∙ ap relation_of is))

  pub insert_made : u ≡ Insert q t → OnOk r ((row_refusal at table (Insert n t) ≡ None) × (after ≡ with_row t table)) → Made u
  insert_made is p = subst (λ v. Made v) (sym (insert_is is)) (on_ok r ((row_refusal at table (Insert n t) ≡ None) × (after ≡ with_row t table)) ((update_refusal homes at db (Insert n t) ≡ None) × (set db n after ≡ updated db (Insert n t)))
      (λ (w : (row_refusal at table (Insert n t) ≡ None) × (after ≡ with_row t table)). (update_is (Insert n t) refl ∙ w.0, ap (set db n) w.1 ∙ set_changed (with_row t) db n table there)) p)

  pub insert_refused : u ≡ Insert q t → IfErr r (λ e. e ≢ NoMemory → row_refusal at table (Insert n t) ≡ Some e) → Refused u
  insert_refused is p = subst (λ v. Refused v) (sym (insert_is is)) (if_err r (λ e. e ≢ NoMemory → row_refusal at table (Insert n t) ≡ Some e) (λ e. e ≢ NoMemory → update_refusal homes at db (Insert n t) ≡ Some e)
      (λ e w other. update_is (Insert n t) refl ∙ w other) p)

  pub delete_made : u ≡ Delete q t → OnOk r ((row_refusal at table (Delete n t) ≡ None) × (after ≡ without_row t table)) → Made u
  delete_made is p = subst (λ v. Made v) (sym (delete_is is)) (on_ok r ((row_refusal at table (Delete n t) ≡ None) × (after ≡ without_row t table)) ((update_refusal homes at db (Delete n t) ≡ None) × (set db n after ≡ updated db (Delete n t)))
      (λ (w : (row_refusal at table (Delete n t) ≡ None) × (after ≡ without_row t table)). (update_is (Delete n t) refl ∙ w.0, ap (set db n) w.1 ∙ set_changed (without_row t) db n table there)) p)

  pub delete_refused : u ≡ Delete q t → IfErr r (λ e. e ≢ NoMemory → row_refusal at table (Delete n t) ≡ Some e) → Refused u
  delete_refused is p = subst (λ v. Refused v) (sym (delete_is is)) (if_err r (λ e. e ≢ NoMemory → row_refusal at table (Delete n t) ≡ Some e) (λ e. e ≢ NoMemory → update_refusal homes at db (Delete n t) ≡ Some e)
      (λ e w other. update_is (Delete n t) refl ∙ w other) p)
