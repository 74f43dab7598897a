-- Made transactions are valid: `accepted`, nothing refuses a made workload.
--
-- The idea: an update of a source looks at its own relation alone, so the updates of one source meet there what the
-- definition looked at: a key that isn't there for an insert, and the row itself for a delete.
--
-- Four lemmas carry it: `order_fine` and `item_fine` (one update is refused by nothing), `orders_fine` and `items_fine`
-- (nor are all later ones).
use Rattle.std.proofs.Common.{◌≡◌, ℕ, zero, suc, ◌≤◌, ◌<◌, ◌==◌, ◌&&◌, ◌/◌, nat_le, nat_eq, Bool, true, false, cond, List, [], ◌∷◌, length, Option, Some, None, is_some, refl, sym, ap, ap₂, subst, ◌∙◌, arith}
use Rattle.std.specs.Option.{option_or}
use Rattle.std.specs.List.{list_all, AllByRecursion}
use Rattle.std.proofs.Math.Nat.{mod-lt}
use Rattle.std.proofs.lemmas.Bool.Decides.{nat_tests}
use lib.Pointwise.{pointwise}
use Rattle.whips_pick.specs.Picks.{next_state, picked}
use Rattle.whips_lists.proofs.Members.{all_has}
use Rattle.whips_model.specs.Tuples.{Codes, at_columns, row_at, put_row, without_key, has_key}
use Rattle.whips_model.specs.Relation.{Table}
use Rattle.whips_model.proofs.Keyed.{widths_put, widths_filter}
use Rattle.whips_choices.proofs.Rows.{row_found}
use Rattle.whips_rel.specs.declared.update.Update.{Update}
use Rattle.whips_rel.specs.declared.update.Update.TheVariants.{Insert, Delete}
use Rattle.whips_states.specs.States.{Updates, with_row, without_row, updated}
use Rattle.whips_setup.specs.declared.error.BatchErr.{BatchErr}
use Rattle.whips_setup.specs.declared.error.BatchErr.TheVariants.{Limit}
use Rattle.whips_setup.specs.Workloads.{is_update_within, is_transaction_within, is_list_within, is_row, row_refusal, list_refusal, lists_refusal, work_refusal}
use Rattle.whips_gen.specs.Shop.{order_columns, item_columns, shop_tables, shop}
use Rattle.whips_gen.specs.Made.{MadeUpdate, order_with, item_with, order_made, item_made, update_made, updates_made, transactions_of, work_of}

-- ---- one update

same_row : (t : Codes) → pointwise nat_eq t t ≡ true
same_row [] = refl
same_row (c ∷ t) = let e : nat_eq c c ≡ true = grind (arith, nat_tests) in rw e (same_row t)

insert_fine : (source place : ℕ) (table : Table) (r : ℕ) (t : Codes) → row_at table.columns.key (at_columns table.columns.key t) table.rows ≡ None → row_refusal (record { source = source; place = place; item = 1 }) table (Insert r t) ≡ None
insert_fine source place table r t none = rw none refl

delete_fine : (source place : ℕ) (table : Table) (r : ℕ) (k t : Codes) → row_at table.columns.key k table.rows ≡ Some t → row_refusal (record { source = source; place = place; item = 1 }) table (Delete r t) ≡ None
delete_fine source place table r k t found =
    let own : row_at table.columns.key (at_columns table.columns.key t) table.rows ≡ Some t = ap (λ l. row_at table.columns.key l table.rows) (row_found table.columns.key k t table.rows found).1 ∙ found in
    rw (own, same_row t) refl

-- the tuple is within the limits of its relation
abbrev Fits : ℕ → Codes → Type 0
Fits r t = is_update_within shop_tables (Insert r t) ≡ true

small : (count state : ℕ) → 0 < count → count ≤ 100 → nat_le (picked count state) 999999999999 ≡ true
small count state some few = let lt = mod-lt (state / 65536) {m = count} some in grind (arith, nat_tests)

order_fits : (a b c : ℕ) → Fits 0 (picked 64 a ∷ picked 32 b ∷ picked 100 c ∷ [])
order_fits a b c = rw (small 64 a (omega arith) (omega arith), small 32 b (omega arith) (omega arith), small 100 c (omega arith) (omega arith)) refl

item_fits : (a b : ℕ) → Fits 1 (picked 32 a ∷ picked 16 b ∷ [])
item_fits a b = rw (small 32 a (omega arith) (omega arith), small 16 b (omega arith) (omega arith)) refl

-- ---- the transactions of a source

-- the transactions of the source are refused by nothing from this place on, and are few
record AreFine (source place : ℕ) (db : List Table) (list : List Updates) (n : ℕ) : Type 0 where
  accepted : list_refusal (0 ∷ 1 ∷ []) source place db list ≡ None
  within : list_all (is_transaction_within shop_tables) list ≡ true
  short : length list ≤ n

none_fine : (source place : ℕ) (db : List Table) → AreFine source place db [] 0
none_fine source place db = record { accepted = refl; within = refl; short = omega arith }

others_fine : (source place : ℕ) (db : List Table) (list : List Updates) (n : ℕ) → AreFine source place db list n → AreFine source place db list (suc n)
others_fine source place db list n h = record { accepted = h.accepted; within = h.within; short = omega (arith, h.short) }

abbrev pub orders_of : List Codes → Table
orders_of rows = record { columns = order_columns; rows = rows }

abbrev pub items_of : List Codes → Table
items_of rows = record { columns = item_columns; rows = rows }

module _ (place : ℕ) (rows : List Codes) (other : Table) (list : List Updates) (n : ℕ) where
  order_comes : (t : Codes) → Fits 0 t → row_at (0 ∷ []) (at_columns (0 ∷ []) t) rows ≡ None → AreFine 0 (suc place) (orders_of (put_row (0 ∷ []) t rows) ∷ other ∷ []) list n
      → AreFine 0 place (orders_of rows ∷ other ∷ []) ((Insert 0 t ∷ []) ∷ list) (suc n)
  order_comes t fit none h = record {
    accepted = ap (λ o. option_or (option_or o None) (list_refusal (0 ∷ 1 ∷ []) 0 (suc place) (orders_of (put_row (0 ∷ []) t rows) ∷ other ∷ []) list)) (insert_fine 0 place (orders_of rows) 0 t none) ∙ h.accepted;
    within = ap (λ b. (b && true) && list_all (is_transaction_within shop_tables) list) fit ∙ h.within;
    short = omega (arith, h.short);
  }

  order_goes : (k t : Codes) → Fits 0 t → row_at (0 ∷ []) k rows ≡ Some t → AreFine 0 (suc place) (without_row t (orders_of rows) ∷ other ∷ []) list n → AreFine 0 place (orders_of rows ∷ other ∷ []) ((Delete 0 t ∷ []) ∷ list) (suc n)
  order_goes k t fit found h = record {
    accepted = ap (λ o. option_or (option_or o None) (list_refusal (0 ∷ 1 ∷ []) 0 (suc place) (without_row t (orders_of rows) ∷ other ∷ []) list)) (delete_fine 0 place (orders_of rows) 0 k t found) ∙ h.accepted;
    within = ap (λ b. (b && true) && list_all (is_transaction_within shop_tables) list) fit ∙ h.within;
    short = omega (arith, h.short);
  }

  item_comes : (t : Codes) → Fits 1 t → row_at (0 ∷ []) (at_columns (0 ∷ []) t) rows ≡ None → AreFine 1 (suc place) (other ∷ items_of (put_row (0 ∷ []) t rows) ∷ []) list n
      → AreFine 1 place (other ∷ items_of rows ∷ []) ((Insert 1 t ∷ []) ∷ list) (suc n)
  item_comes t fit none h = record {
    accepted = ap (λ o. option_or (option_or o None) (list_refusal (0 ∷ 1 ∷ []) 1 (suc place) (other ∷ items_of (put_row (0 ∷ []) t rows) ∷ []) list)) (insert_fine 1 place (items_of rows) 1 t none) ∙ h.accepted;
    within = ap (λ b. (b && true) && list_all (is_transaction_within shop_tables) list) fit ∙ h.within;
    short = omega (arith, h.short);
  }

  item_goes : (k t : Codes) → Fits 1 t → row_at (0 ∷ []) k rows ≡ Some t → AreFine 1 (suc place) (other ∷ without_row t (items_of rows) ∷ []) list n → AreFine 1 place (other ∷ items_of rows ∷ []) ((Delete 1 t ∷ []) ∷ list) (suc n)
  item_goes k t fit found h = record {
    accepted = ap (λ o. option_or (option_or o None) (list_refusal (0 ∷ 1 ∷ []) 1 (suc place) (other ∷ without_row t (items_of rows) ∷ []) list)) (delete_fine 1 place (items_of rows) 1 k t found) ∙ h.accepted;
    within = ap (λ b. (b && true) && list_all (is_transaction_within shop_tables) list) fit ∙ h.within;
    short = omega (arith, h.short);
  }

-- ---- all updates

-- n made updates of orders are refused by nothing, whatever is in the other relation when they are tested
abbrev OrdersFine : ℕ → Type 0
OrdersFine n = (state place : ℕ) (orders items : List Codes) (other : Table) → AllByRecursion (Fits 0) orders
    → AreFine 0 place (orders_of orders ∷ other ∷ []) (transactions_of 0 (updates_made n state (orders_of orders ∷ items_of items ∷ []))) n

abbrev ItemsFine : ℕ → Type 0
ItemsFine n = (state place : ℕ) (orders items : List Codes) (other : Table) → AllByRecursion (Fits 1) items
    → AreFine 1 place (other ∷ items_of items ∷ []) (transactions_of 1 (updates_made n state (orders_of orders ∷ items_of items ∷ []))) n

module _ (n place : ℕ) (orders items : List Codes) (other : Table) where
  abbrev later : MadeUpdate → List Update
  later m = m.update ∷ updates_made n m.state (updated (orders_of orders ∷ items_of items ∷ []) m.update)

  order_fine : OrdersFine n → AllByRecursion (Fits 0) orders → (key state : ℕ) (o : Option Codes) → row_at (0 ∷ []) (picked 64 key ∷ []) orders ≡ o
      → AreFine 0 place (orders_of orders ∷ other ∷ []) (transactions_of 0 (later (order_with (picked 64 key) state o))) (suc n)
  order_fine ih fit key state (Some row) found =
      order_goes place orders other _ n (picked 64 key ∷ []) row (all_has (Fits 0) orders fit row (row_found (0 ∷ []) (picked 64 key ∷ []) row orders found).0) found
      (ih state (suc place) (without_row row (orders_of orders)).rows items other (widths_filter (Fits 0) _ orders fit))
  order_fine ih fit key state None found =
      let t = picked 64 key ∷ picked 32 (next_state state) ∷ picked 100 (next_state (next_state state)) ∷ [] in
      let own = order_fits key (next_state state) (next_state (next_state state)) in
      order_comes place orders other _ n t own found (ih (next_state (next_state state)) (suc place) (put_row (0 ∷ []) t orders) items other (widths_put (Fits 0) (0 ∷ []) t orders own fit))

  order_passed : OrdersFine n → AllByRecursion (Fits 0) orders → (key state : ℕ) (o : Option Codes)
      → AreFine 0 place (orders_of orders ∷ other ∷ []) (transactions_of 0 (later (item_with key state o))) (suc n)
  order_passed ih fit key state (Some row) =
      others_fine 0 place (orders_of orders ∷ other ∷ []) _ n (ih state place orders (without_row row (items_of items)).rows other fit)
  order_passed ih fit key state None =
      others_fine 0 place (orders_of orders ∷ other ∷ []) _ n (ih (next_state state) place orders (put_row (0 ∷ []) (key ∷ picked 16 (next_state state) ∷ []) items) other fit)

  item_fine : ItemsFine n → AllByRecursion (Fits 1) items → (key state : ℕ) (o : Option Codes) → row_at (0 ∷ []) (picked 32 key ∷ []) items ≡ o
      → AreFine 1 place (other ∷ items_of items ∷ []) (transactions_of 1 (later (item_with (picked 32 key) state o))) (suc n)
  item_fine ih fit key state (Some row) found =
      item_goes place items other _ n (picked 32 key ∷ []) row (all_has (Fits 1) items fit row (row_found (0 ∷ []) (picked 32 key ∷ []) row items found).0) found
      (ih state (suc place) orders (without_row row (items_of items)).rows other (widths_filter (Fits 1) _ items fit))
  item_fine ih fit key state None found =
      let t = picked 32 key ∷ picked 16 (next_state state) ∷ [] in
      let own = item_fits key (next_state state) in
      item_comes place items other _ n t own found (ih (next_state state) (suc place) orders (put_row (0 ∷ []) t items) other (widths_put (Fits 1) (0 ∷ []) t items own fit))

  item_passed : ItemsFine n → AllByRecursion (Fits 1) items → (key state : ℕ) (o : Option Codes)
      → AreFine 1 place (other ∷ items_of items ∷ []) (transactions_of 1 (later (order_with key state o))) (suc n)
  item_passed ih fit key state (Some row) =
      others_fine 1 place (other ∷ items_of items ∷ []) _ n (ih state place (without_row row (orders_of orders)).rows items other fit)
  item_passed ih fit key state None =
      let t = key ∷ picked 32 (next_state state) ∷ picked 100 (next_state (next_state state)) ∷ [] in
      others_fine 1 place (other ∷ items_of items ∷ []) _ n (ih (next_state (next_state state)) place (put_row (0 ∷ []) t orders) items other fit)

  orders_next : OrdersFine n → AllByRecursion (Fits 0) orders → (state : ℕ) (b : Bool)
      → AreFine 0 place (orders_of orders ∷ other ∷ []) (transactions_of 0 (later (cond b (order_made state orders) (item_made state items)))) (suc n)
  orders_next ih fit state true = order_fine ih fit (next_state state) (next_state state) _ refl
  orders_next ih fit state false = order_passed ih fit (picked 32 (next_state state)) (next_state state) _

  items_next : ItemsFine n → AllByRecursion (Fits 1) items → (state : ℕ) (b : Bool)
      → AreFine 1 place (other ∷ items_of items ∷ []) (transactions_of 1 (later (cond b (order_made state orders) (item_made state items)))) (suc n)
  items_next ih fit state true = item_passed ih fit (picked 64 (next_state state)) (next_state state) _
  items_next ih fit state false = item_fine ih fit (next_state state) (next_state state) _ refl

orders_fine : (n : ℕ) → OrdersFine n
orders_fine zero = λ state place orders items other fit. none_fine 0 place (orders_of orders ∷ other ∷ [])
orders_fine (suc n) = λ state place orders items other fit. orders_next n place orders items other (orders_fine n) fit (next_state state) (picked 2 (next_state state) == 0)

items_fine : (n : ℕ) → ItemsFine n
items_fine zero = λ state place orders items other fit. none_fine 1 place (other ∷ items_of items ∷ [])
items_fine (suc n) = λ state place orders items other fit. items_next n place orders items other (items_fine n) fit (next_state state) (picked 2 (next_state state) == 0)

-- ---- the workload

few : (db : List Table) (list : List Updates) (n : ℕ) → n ≤ 4096 → length list ≤ n → list_all (is_transaction_within db) list ≡ true → is_list_within db list ≡ true
few db list n most short within = let le : nat_le (length list) 4096 ≡ true = grind (arith, nat_tests) in rw (le, within) refl

pub accepted : (start size : ℕ) → size ≤ 4096 → work_refusal shop (work_of (updates_made size start shop_tables)) ≡ None
accepted start size most =
    let us = updates_made size start shop_tables in
    let sales = orders_fine size start 1 [] [] (items_of []) tt in
    let stock = items_fine size start 1 [] [] (orders_of []) tt in
    let first = few shop_tables (transactions_of 0 us) size most sales.short sales.within in
    let second = few shop_tables (transactions_of 1 us) size most stock.short stock.within in
    ap₂ (λ (a b : Bool). cond (a && (b && true)) (lists_refusal shop 0 (work_of us)) (Some Limit)) first second
    ∙ ap₂ (λ (a b : Option BatchErr). option_or a (option_or b None)) sales.accepted stock.accepted
