-- The updates that a picker makes, and the script of them.
use Rattle.std.specs.Prelude.{ℕ, zero, suc, ◌*◌, ◌==◌, List, [], ◌∷◌, map, filter, Option, Some, None, if◌then◌else◌}
use Rattle.whips_pick.specs.Picks.{next_state, picked}
use Rattle.whips_model.specs.Tuples.{Codes, row_at}
use Rattle.whips_model.specs.Relation.{Table, table_rows}
use Rattle.whips_rel.specs.declared.update.Update.{Update}
use Rattle.whips_rel.specs.declared.update.Update.TheVariants.{Insert, Delete}
use Rattle.whips_rel.specs.Updates.{relation_of}
use Rattle.whips_states.specs.States.{Updates, with_row, without_row, updated}
use Rattle.whips_setup.specs.declared.plan.Plan.{Plan}
use Rattle.whips_setup.specs.declared.plan.Plan.TheVariants.{Picked}
use Rattle.whips_facts.specs.Scripts.{Script}
use Rattle.whips_gen.specs.Shop.{shop, shop_tables}

-- the relation that the update changes, after it
abbrev pub table_after : Update → Table → Table
table_after (Insert r t) table = with_row t table
table_after (Delete r t) table = without_row t table

-- an update, and the picker's state after the picks that it took
pub record MadeUpdate : Type 0 where
  pub update : Update
  pub state : ℕ

-- the order of this key goes where it is there, and otherwise comes with an item below 32 and a quantity below 100
abbrev pub order_with : (key state : ℕ) → Option Codes → MadeUpdate
order_with key state (Some row) = record { update = Delete 0 row; state = state }
order_with key state None = let item = next_state state in let quantity = next_state item in
    record { update = Insert 0 (key ∷ picked 32 item ∷ picked 100 quantity ∷ []); state = quantity }

-- the item of this key goes where it is there, and otherwise comes with a bin below 16
abbrev pub item_with : (key state : ℕ) → Option Codes → MadeUpdate
item_with key state (Some row) = record { update = Delete 1 row; state = state }
item_with key state None = let bin = next_state state in
    record { update = Insert 1 (key ∷ picked 16 bin ∷ []); state = bin }

-- the update of the order whose key below 64 is picked, by the orders that are there
abbrev pub order_made : ℕ → List Codes → MadeUpdate
order_made state orders = let key = picked 64 (next_state state) in order_with key (next_state state) (row_at (0 ∷ []) (key ∷ []) orders)

-- the update of the item whose key below 32 is picked, by the items that are there
abbrev pub item_made : ℕ → List Codes → MadeUpdate
item_made state items = let key = picked 32 (next_state state) in item_with key (next_state state) (row_at (0 ∷ []) (key ∷ []) items)

-- the next update: of an order where 0 of 2 is picked, and otherwise of an item
abbrev pub update_made : ℕ → List Table → MadeUpdate
update_made state db =
    if picked 2 (next_state state) == 0 then order_made (next_state state) (table_rows db 0) else item_made (next_state state) (table_rows db 1)

-- n updates, one after another, each by the picker's state and the relations after the ones before it; own
abbrev pub updates_made : ℕ → ℕ → List Table → List Update
updates_made zero state db = []
updates_made (suc n) state db = let made = update_made state db in made.update ∷ updates_made n made.state (updated db made.update)

-- the updates of a relation, each a transaction of its own
abbrev pub transactions_of : ℕ → List Update → List Updates
transactions_of r us = map (λ u. u ∷ []) (filter (λ u. relation_of u == r) us)

-- the transactions of each source
abbrev pub work_of : List Update → List (List Updates)
work_of us = transactions_of 0 us ∷ transactions_of 1 us ∷ []

-- the script of so many updates by a picker that begins at `start`, with two sessions; own
abbrev pub made_script : (start size : ℕ) → Script
made_script start size = record { setup = shop; work = work_of (updates_made size start shop_tables); sessions = 2 }

-- its schedule: 16 picked events for each update, by a picker that begins at `start` again
abbrev pub made_plan : (start size : ℕ) → Plan
made_plan start size = Picked start (16 * size)
