-- The orders and items at every cut of a made script: `shop_stays`.
--
-- The idea: a made update puts an order of a number below 64, puts an item, or takes one of either out; so at every cut both relations have
-- one row a key, and the numbers of orders are below 64.
use Rattle.std.proofs.Common.{inl, inr, ◌≡◌, ◌⊎◌, ℕ, zero, suc, ◌<◌, ◌/◌, ◌==◌, Bool, true, false, cond, List, [], ◌∷◌, take, Option, Some, None, refl, ap, ◌∙◌, arith}
use Rattle.std.specs.Prelude.{map, filter, slice_index}
use Rattle.std.specs.List.{AllByRecursion}
use Rattle.std.proofs.Math.Nat.{mod-lt}
use Rattle.whips_pick.specs.Picks.{next_state, picked}
use Rattle.whips_lists.specs.Lists.{changed_at}
use Rattle.whips_model.specs.Tuples.{Codes, IsKeyed, at_columns, row_at, put_row, without_key, has_key}
use Rattle.whips_model.specs.Relation.{Table}
use Rattle.whips_model.proofs.Keyed.{keyed_put, keyed_filter, widths_put, widths_filter}
use Rattle.whips_rel.specs.declared.update.Update.{Update}
use Rattle.whips_rel.specs.declared.update.Update.TheVariants.{Insert, Delete}
use Rattle.whips_rel.specs.Updates.{relation_of}
use Rattle.whips_rel.proofs.Chunks.{all_take}
use Rattle.whips_states.specs.States.{Updates, with_row, without_row, updated, applied, all_applied, state_at}
use Rattle.whips_gen.specs.Shop.{shop_tables}
use Rattle.whips_gen.specs.Made.{order_with, item_with, order_made, item_made, update_made, updates_made, transactions_of, work_of}
use Rattle.whips_gen.proofs.Sound.{orders_of, items_of}

-- both relations with one row a key, and the numbers of orders below 64
pub record IsShop (db : List Table) : Type 0 where
  pub orders : List Codes
  pub items : List Codes
  pub are : db ≡ orders_of orders ∷ items_of items ∷ []
  pub orders_keyed : IsKeyed (0 ∷ []) orders
  pub items_keyed : IsKeyed (0 ∷ []) items
  pub low : AllByRecursion (λ t. slice_index t 0 < 64) orders

-- an update of an order or of an item, and no order of a higher number comes
abbrev IsOfShop : Update → Type 0
IsOfShop (Insert r t) = ((r ≡ 0) × (slice_index t 0 < 64)) ⊎ (r ≡ 1)
IsOfShop (Delete r t) = (r ≡ 0) ⊎ (r ≡ 1)

-- ---- one update after another

update_stays : (db : List Table) (u : Update) → IsShop db → IsOfShop u → IsShop (updated db u)
update_stays db (Insert r t) h (inl p) = record {
  orders = put_row (0 ∷ []) t h.orders;
  items = h.items;
  are = ap (λ n. changed_at n (with_row t) db) p.0 ∙ ap (changed_at 0 (with_row t)) h.are;
  orders_keyed = keyed_put (0 ∷ []) t h.orders h.orders_keyed;
  items_keyed = h.items_keyed;
  low = widths_put (λ t. slice_index t 0 < 64) (0 ∷ []) t h.orders p.1 h.low;
}
update_stays db (Insert r t) h (inr e) = record {
  orders = h.orders;
  items = put_row (0 ∷ []) t h.items;
  are = ap (λ n. changed_at n (with_row t) db) e ∙ ap (changed_at 1 (with_row t)) h.are;
  orders_keyed = h.orders_keyed;
  items_keyed = keyed_put (0 ∷ []) t h.items h.items_keyed;
  low = h.low;
}
update_stays db (Delete r t) h (inl e) = record {
  orders = without_key (0 ∷ []) (at_columns (0 ∷ []) t) h.orders;
  items = h.items;
  are = ap (λ n. changed_at n (without_row t) db) e ∙ ap (changed_at 0 (without_row t)) h.are;
  orders_keyed = keyed_filter (0 ∷ []) _ h.orders h.orders_keyed;
  items_keyed = h.items_keyed;
  low = widths_filter (λ t. slice_index t 0 < 64) _ h.orders h.low;
}
update_stays db (Delete r t) h (inr e) = record {
  orders = h.orders;
  items = without_key (0 ∷ []) (at_columns (0 ∷ []) t) h.items;
  are = ap (λ n. changed_at n (without_row t) db) e ∙ ap (changed_at 1 (without_row t)) h.are;
  orders_keyed = h.orders_keyed;
  items_keyed = keyed_filter (0 ∷ []) _ h.items h.items_keyed;
  low = h.low;
}

transaction_stays : (db : List Table) (t : Updates) → IsShop db → AllByRecursion IsOfShop t → IsShop (applied db t)
transaction_stays db [] h of = h
transaction_stays db (u ∷ t) h of = transaction_stays (updated db u) t (update_stays db u h of.0) of.1

transactions_stay : (db : List Table) (ts : List Updates) → IsShop db → AllByRecursion (AllByRecursion IsOfShop) ts → IsShop (all_applied db ts)
transactions_stay db [] h of = h
transactions_stay db (t ∷ ts) h of = transactions_stay (applied db t) ts (transaction_stays db t h of.0) of.1

cut_stays : (db : List Table) (work : List (List Updates)) (cut : List ℕ) → IsShop db → AllByRecursion (AllByRecursion (AllByRecursion IsOfShop)) work → IsShop (state_at db work cut)
cut_stays db [] cut h of = h
cut_stays db (ts ∷ work) [] h of = h
cut_stays db (ts ∷ work) (c ∷ cut) h of = cut_stays (all_applied db (take c ts)) work cut (transactions_stay db (take c ts) h (all_take (AllByRecursion IsOfShop) c ts of.0)) of.1

-- ---- what is made

order_is : (key state : ℕ) (o : Option Codes) → key < 64 → IsOfShop (order_with key state o).update
order_is key state (Some row) lt = inl refl
order_is key state None lt = inl (refl, lt)

item_is : (key state : ℕ) (o : Option Codes) → IsOfShop (item_with key state o).update
item_is key state (Some row) = inr refl
item_is key state None = inr refl

update_is : (state : ℕ) (orders items : List Codes) (b : Bool) → IsOfShop (cond b (order_made state orders) (item_made state items)).update
update_is state orders items true = order_is (picked 64 (next_state state)) (next_state state) _ (mod-lt (next_state state / 65536) {m = 64} (omega arith))
update_is state orders items false = item_is (picked 32 (next_state state)) (next_state state) _

updates_are : (n state : ℕ) (db : List Table) → AllByRecursion IsOfShop (updates_made n state db)
updates_are zero state db = tt
updates_are (suc n) state db = (update_is (next_state state) _ _ (picked 2 (next_state state) == 0), updates_are n (update_made state db).state (updated db (update_made state db).update))

transactions_are : (r : ℕ) (us : List Update) → AllByRecursion IsOfShop us → AllByRecursion (AllByRecursion IsOfShop) (transactions_of r us)
transactions_are r [] of = tt
transactions_are r (u ∷ us) of = go (transactions_are r us of.1) (relation_of u == r)
  where
    go : AllByRecursion (AllByRecursion IsOfShop) (transactions_of r us) → (b : Bool)
        → AllByRecursion (AllByRecursion IsOfShop) (map (λ u. u ∷ []) (cond b (u ∷ filter (λ u. relation_of u == r) us) (filter (λ u. relation_of u == r) us)))
    go ih true = ((of.0, tt), ih)
    go ih false = ih

pub shop_stays : (start size : ℕ) (cut : List ℕ) → IsShop (state_at shop_tables (work_of (updates_made size start shop_tables)) cut)
shop_stays start size cut =
    let us = updates_made size start shop_tables in
    let of = updates_are size start shop_tables in
    cut_stays shop_tables (work_of us) cut (record { orders = []; items = []; are = refl; orders_keyed = tt; items_keyed = tt; low = tt })
    (transactions_are 0 us of, (transactions_are 1 us of, tt))
