-- A shop with joins over two and three relations, and a script with picked turns.
use Rattle.std.specs.Prelude.{ℕ, zero, suc, List, [], ◌∷◌}
use Rattle.whips_model.specs.Tuples.{Codes}
use Rattle.whips_model.specs.Relation.{Table}
use Rattle.whips_model.specs.declared.Cmp.TheVariants.{Ge}
use Rattle.whips_model.specs.declared.Kind.{Kind}
use Rattle.whips_model.specs.declared.Kind.TheVariants.{Number, Text}
use Rattle.whips_rel.specs.declared.update.Update.TheVariants.{Insert, Delete}
use Rattle.whips_flow.specs.declared.event.Event.{Event}
use Rattle.whips_flow.specs.declared.event.Event.TheVariants.{SessionOpen, SessionScan, SessionFetch, SessionClose}
use Rattle.whips_pick.specs.Picks.{next_state, picked}
use Rattle.whips_runs.specs.Records.{RunRecord, version, opened, more, read, final, final_rows}
use Rattle.whips_facts.specs.Scripts.{Script}
use Rattle.whips_vectors.specs.Scripts.{row2, row3, row4, table2, at, with_slots, single, script_of}

-- ---- the shop: texts are coded by their place in the sorted list Ada, Ben, jam, tea

-- two columns of these kinds
abbrev pub table_of : Kind → Kind → List Codes → Table
table_of first second rows = record { columns = record { kinds = first ∷ second ∷ []; key = 0 ∷ [] }; rows = rows }

-- order number, customer, item, quantity
abbrev pub orders : List Codes → Table
orders rows = record { columns = record { kinds = Number ∷ Number ∷ Text ∷ Number ∷ []; key = 0 ∷ [] }; rows = rows }

-- customers, orders at source 0; items, prices at source 1
abbrev pub shop : Script
shop = script_of (record {
  homes = 0 ∷ 0 ∷ 1 ∷ 1 ∷ [];
  initial = table_of Number Text (row2 1 0 ∷ row2 2 1 ∷ []) ∷ orders (row4 10 1 3 3 ∷ row4 11 2 2 1 ∷ []) ∷ table_of Text Number (row2 2 4 ∷ row2 3 2 ∷ []) ∷ table_of Text Number (row2 2 350 ∷ row2 3 420 ∷ []) ∷ [];
  work = (single (Insert 1 (row4 12 1 2 6)) ∷ single (Delete 1 (row4 11 2 2 1)) ∷ []) ∷ (single (Delete 2 (row2 3 2)) ∷ single (Insert 2 (row2 3 9)) ∷ []) ∷ [];
  views =
      with_slots 1024 (record { relations = 1 ∷ 2 ∷ []; homes = 0 ∷ 1 ∷ []; equal = (at 0 2, at 1 0) ∷ []; conds = []; out = at 0 0 ∷ at 1 0 ∷ at 1 1 ∷ at 0 3 ∷ [] })
      ∷ with_slots 1024 (record { relations = 0 ∷ 1 ∷ 3 ∷ []; homes = 0 ∷ 0 ∷ 1 ∷ []; equal = (at 0 0, at 1 1) ∷ (at 1 2, at 2 0) ∷ []; conds = []; out = at 0 0 ∷ at 0 1 ∷ at 1 0 ∷ at 2 0 ∷ at 2 1 ∷ at 1 3 ∷ [] })
      ∷ with_slots 1024 (record { relations = 1 ∷ []; homes = 0 ∷ []; equal = []; conds = (record { at = at 0 3; cmp = Ge; code = 3; kind = Number }) ∷ []; out = at 0 0 ∷ at 0 2 ∷ at 0 3 ∷ [] })
      ∷ [];
  versions = 2;
  sessions = 0;
})

abbrev pub shop_records : List RunRecord
shop_records = version 0 (0 ∷ 0 ∷ []) (2 ∷ 2 ∷ 1 ∷ []) ∷ version 1 (1 ∷ 0 ∷ []) (3 ∷ 3 ∷ 2 ∷ []) ∷ version 2 (2 ∷ 0 ∷ []) (2 ∷ 2 ∷ 2 ∷ []) ∷ version 3 (2 ∷ 1 ∷ []) (1 ∷ 2 ∷ 2 ∷ []) ∷ version 4 (2 ∷ 2 ∷ []) (2 ∷ 2 ∷ 2 ∷ []) ∷ final (2 ∷ 2 ∷ []) ∷ final_rows 0 ∷ final_rows 1 ∷ final_rows 2 ∷ []

-- the rows of each view at the end
abbrev pub shop_rows : List (List Codes)
shop_rows = (row4 10 3 9 3 ∷ row4 12 2 4 6 ∷ []) ∷ ((1 ∷ 0 ∷ 10 ∷ 3 ∷ 420 ∷ 3 ∷ []) ∷ (1 ∷ 0 ∷ 12 ∷ 2 ∷ 350 ∷ 6 ∷ []) ∷ []) ∷ (row3 10 3 3 ∷ row3 12 2 6 ∷ []) ∷ []

-- ---- the picker

-- n numbers below count, one after another
abbrev pub picked_numbers : ℕ → ℕ → ℕ → List ℕ
picked_numbers zero count state = []
picked_numbers (suc n) count state = picked count (next_state state) ∷ picked_numbers n count (next_state state)

-- ---- orders with id, item and quantity at source 0, items with bin at source 1, one order, two sessions

abbrev pub made : Script
made = script_of (record {
  homes = 0 ∷ 1 ∷ [];
  initial = (record { columns = record { kinds = Number ∷ Number ∷ Number ∷ []; key = 0 ∷ [] }; rows = [] }) ∷ table2 [] ∷ [];
  work = (single (Insert 0 (row3 16 12 69)) ∷ []) ∷ [] ∷ [];
  views =
      with_slots 128 (record { relations = 0 ∷ 1 ∷ []; homes = 0 ∷ 1 ∷ []; equal = (at 0 1, at 1 0) ∷ []; conds = []; out = at 0 0 ∷ at 1 0 ∷ at 1 1 ∷ at 0 2 ∷ [] })
      ∷ with_slots 128 (record { relations = 0 ∷ []; homes = 0 ∷ []; equal = []; conds = (record { at = at 0 2; cmp = Ge; code = 50; kind = Number }) ∷ []; out = at 0 0 ∷ at 0 1 ∷ at 0 2 ∷ [] })
      ∷ [];
  versions = 2;
  sessions = 2;
})

abbrev pub made_events : List Event
made_events = SessionOpen 1 ∷ SessionOpen 0 ∷ SessionScan 1 0 ∷ SessionScan 0 0 ∷ SessionScan 1 1 ∷ SessionFetch 1 64 ∷ SessionClose 1 ∷ SessionOpen 1 ∷ SessionScan 1 0 ∷ SessionClose 0 ∷ SessionScan 1 0 ∷ SessionOpen 0 ∷ SessionClose 0 ∷ SessionFetch 1 64 ∷ SessionFetch 1 64 ∷ SessionClose 1 ∷ []

abbrev pub made_records : List RunRecord
made_records = version 0 (0 ∷ 0 ∷ []) (0 ∷ 0 ∷ []) ∷ opened 1 0 0 ∷ opened 0 0 0 ∷ more 1 1 0 0 64 ∷ opened 1 0 0 ∷ opened 0 0 0 ∷ more 1 0 0 0 64 ∷ read 1 0 0 0 ∷ version 1 (1 ∷ 0 ∷ []) (0 ∷ 1 ∷ []) ∷ final (1 ∷ 0 ∷ []) ∷ final_rows 0 ∷ final_rows 1 ∷ []
