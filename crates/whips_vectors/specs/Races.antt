-- Transactions that race queries and one another.
use Rattle.std.specs.Prelude.{List, [], ◌∷◌}
use Rattle.whips_model.specs.Views.{ViewData}
use Rattle.whips_model.specs.declared.Cmp.TheVariants.{Lt}
use Rattle.whips_model.specs.declared.Kind.TheVariants.{Number}
use Rattle.whips_rel.specs.declared.update.Update.TheVariants.{Insert, Delete}
use Rattle.whips_flow.specs.declared.event.Event.{Event}
use Rattle.whips_flow.specs.declared.event.Event.TheVariants.{Commit, Answer, Integrate, Manage, Rel, Act, Begin}
use Rattle.whips_runs.specs.Records.{RunRecord, version, skip, final, final_rows}
use Rattle.whips_facts.specs.Scripts.{Script}
use Rattle.whips_vectors.specs.Scripts.{row2, table2, at, with_slots, single, script_of, join_of_two, two_pieces, two_sources}

-- ---- one relation, one view, no transaction

abbrev pub copy_of_one : ViewData
copy_of_one = record { relations = 0 ∷ []; homes = 0 ∷ []; equal = []; conds = []; out = at 0 0 ∷ at 0 1 ∷ [] }

abbrev pub still : Script
still = script_of (record { homes = 0 ∷ []; initial = table2 (row2 1 5 ∷ []) ∷ []; work = [] ∷ []; views = with_slots 1024 copy_of_one ∷ []; versions = 2; sessions = 0 })

abbrev pub still_records : List RunRecord
still_records = version 0 (0 ∷ []) (1 ∷ []) ∷ final (0 ∷ []) ∷ final_rows 0 ∷ []

-- ---- an insertion at each source, each before the other's query is answered

abbrev pub raced : Script
raced = two_sources 4 [] [] (single (Insert 0 (row2 1 5)) ∷ []) (single (Insert 1 (row2 7 5)) ∷ [])

abbrev pub raced_plan : List Event
raced_plan = Commit 0 ∷ Integrate 0 ∷ Manage 0 ∷ Commit 1 ∷ Answer 1 0 ∷ Integrate 1 ∷ Manage 0 ∷ Integrate 1 ∷ Manage 0 ∷ []

abbrev pub raced_records : List RunRecord
raced_records = version 0 (0 ∷ 0 ∷ []) (0 ∷ []) ∷ version 1 (1 ∷ 1 ∷ []) (1 ∷ []) ∷ final (1 ∷ 1 ∷ []) ∷ final_rows 0 ∷ []

-- ---- an insertion is answered before a deletion at the other source, and both lists come before their rows

abbrev pub early_lists : Script
early_lists = two_sources 4 [] (row2 7 5 ∷ []) (single (Insert 0 (row2 1 5)) ∷ []) (single (Delete 1 (row2 7 5)) ∷ [])

abbrev pub early_lists_plan : List Event
early_lists_plan = Commit 0 ∷ Integrate 0 ∷ Manage 0 ∷ Answer 1 0 ∷ Commit 1 ∷ Integrate 1 ∷ Manage 0 ∷ Integrate 1 ∷ Manage 0 ∷ Act 0 ∷ Act 0 ∷ []

abbrev pub early_lists_records : List RunRecord
early_lists_records = version 0 (0 ∷ 0 ∷ []) (0 ∷ []) ∷ version 1 (1 ∷ 0 ∷ []) (1 ∷ []) ∷ version 2 (1 ∷ 1 ∷ []) (0 ∷ []) ∷ final (1 ∷ 1 ∷ []) ∷ final_rows 0 ∷ []

-- ---- a deletion at the source of the first step, while the second step is open

abbrev pub three_parts : Script
three_parts = script_of (record {
  homes = 0 ∷ 1 ∷ 2 ∷ [];
  initial = table2 [] ∷ table2 (row2 7 5 ∷ []) ∷ table2 (row2 9 5 ∷ []) ∷ [];
  work = (single (Insert 0 (row2 1 5)) ∷ []) ∷ (single (Delete 1 (row2 7 5)) ∷ []) ∷ [] ∷ [];
  views = with_slots 4 (record { relations = 0 ∷ 1 ∷ 2 ∷ []; homes = 0 ∷ 1 ∷ 2 ∷ []; equal = (at 0 1, at 1 1) ∷ (at 1 1, at 2 1) ∷ []; conds = []; out = at 0 0 ∷ at 1 0 ∷ at 2 0 ∷ at 0 1 ∷ [] }) ∷ [];
  versions = 2;
  sessions = 1;
})

abbrev pub three_parts_plan : List Event
three_parts_plan = Commit 0 ∷ Integrate 0 ∷ Manage 0 ∷ Answer 1 0 ∷ Integrate 1 ∷ Manage 0 ∷ Commit 1 ∷ Integrate 1 ∷ Manage 0 ∷ Answer 2 0 ∷ Integrate 2 ∷ Manage 0 ∷ []

abbrev pub three_parts_records : List RunRecord
three_parts_records = version 0 (0 ∷ 0 ∷ 0 ∷ []) (0 ∷ []) ∷ version 1 (1 ∷ 1 ∷ 0 ∷ []) (0 ∷ []) ∷ final (1 ∷ 1 ∷ 0 ∷ []) ∷ final_rows 0 ∷ []

-- ---- a key is deleted and inserted again while a query is open

abbrev pub two_lives : Script
two_lives = two_sources 4 [] (row2 7 6 ∷ []) (single (Insert 0 (row2 1 5)) ∷ []) (single (Delete 1 (row2 7 6)) ∷ single (Insert 1 (row2 7 5)) ∷ [])

abbrev pub two_lives_plan : List Event
two_lives_plan = Commit 0 ∷ Integrate 0 ∷ Manage 0 ∷ Commit 1 ∷ Commit 1 ∷ Answer 1 0 ∷ Integrate 1 ∷ Manage 0 ∷ Integrate 1 ∷ Manage 0 ∷ Integrate 1 ∷ Manage 0 ∷ []

abbrev pub two_lives_records : List RunRecord
two_lives_records = version 0 (0 ∷ 0 ∷ []) (0 ∷ []) ∷ version 1 (1 ∷ 2 ∷ []) (1 ∷ []) ∷ final (1 ∷ 2 ∷ []) ∷ final_rows 0 ∷ []

-- ---- two views, of which the second is done with its transaction before the first

-- S is relation 2; the second view copies P, which is relation 1
abbrev pub same_source : Script
same_source = script_of (record {
  homes = 0 ∷ 0 ∷ 1 ∷ [];
  initial = table2 [] ∷ table2 [] ∷ table2 (row2 7 5 ∷ []) ∷ [];
  work = (single (Insert 0 (row2 1 5)) ∷ single (Insert 1 (row2 2 8)) ∷ []) ∷ [] ∷ [];
  views = with_slots 4 (record join_of_two { relations = 0 ∷ 2 ∷ [] }) ∷ with_slots 4 (record { relations = 1 ∷ []; homes = 0 ∷ []; equal = []; conds = []; out = at 0 0 ∷ at 0 1 ∷ [] }) ∷ [];
  versions = 2;
  sessions = 1;
})

abbrev pub same_source_plan : List Event
same_source_plan = Commit 0 ∷ Commit 0 ∷ Integrate 0 ∷ Integrate 0 ∷ Rel ∷ Rel ∷ Manage 1 ∷ Act 1 ∷ Begin ∷ []

abbrev pub same_source_records : List RunRecord
same_source_records = version 0 (0 ∷ 0 ∷ []) (0 ∷ 0 ∷ []) ∷ skip 9 Begin ∷ version 1 (1 ∷ 0 ∷ []) (1 ∷ 0 ∷ []) ∷ version 2 (2 ∷ 0 ∷ []) (1 ∷ 1 ∷ []) ∷ final (2 ∷ 0 ∷ []) ∷ final_rows 0 ∷ final_rows 1 ∷ []

-- P stands at source 1
abbrev pub other_source : Script
other_source = script_of (record {
  homes = 0 ∷ 1 ∷ 1 ∷ [];
  initial = table2 [] ∷ table2 (row2 7 5 ∷ []) ∷ table2 [] ∷ [];
  work = (single (Insert 0 (row2 1 5)) ∷ []) ∷ (single (Insert 2 (row2 2 8)) ∷ []) ∷ [];
  views = with_slots 4 join_of_two ∷ with_slots 4 (record { relations = 2 ∷ []; homes = 1 ∷ []; equal = []; conds = []; out = at 0 0 ∷ at 0 1 ∷ [] }) ∷ [];
  versions = 2;
  sessions = 1;
})

abbrev pub other_source_plan : List Event
other_source_plan = Commit 0 ∷ Commit 1 ∷ Integrate 0 ∷ Integrate 1 ∷ Rel ∷ Rel ∷ Manage 1 ∷ Act 1 ∷ Begin ∷ []

abbrev pub other_source_records : List RunRecord
other_source_records = version 0 (0 ∷ 0 ∷ []) (0 ∷ 0 ∷ []) ∷ version 1 (0 ∷ 1 ∷ []) (0 ∷ 1 ∷ []) ∷ version 2 (1 ∷ 1 ∷ []) (1 ∷ 1 ∷ []) ∷ final (1 ∷ 1 ∷ []) ∷ final_rows 0 ∷ final_rows 1 ∷ []

-- ---- a tuple that the view's condition shuts out

abbrev pub unconcerned : Script
unconcerned = script_of (record (two_pieces 4 [] [] (single (Insert 0 (row2 1 50)) ∷ []) []) { views = with_slots 4 (record join_of_two { conds = (record { at = at 0 1; cmp = Lt; code = 10; kind = Number }) ∷ [] }) ∷ [] })

abbrev pub unconcerned_records : List RunRecord
unconcerned_records = version 0 (0 ∷ 0 ∷ []) (0 ∷ []) ∷ final (1 ∷ 0 ∷ []) ∷ final_rows 0 ∷ []

-- ---- transactions of more than one update

-- one key is deleted and inserted with another value
abbrev pub replaced : Script
replaced = two_sources 4 (row2 1 6 ∷ []) (row2 7 5 ∷ []) ((Delete 0 (row2 1 6) ∷ Insert 0 (row2 1 5) ∷ []) ∷ []) []

abbrev pub replaced_records : List RunRecord
replaced_records = version 0 (0 ∷ 0 ∷ []) (0 ∷ []) ∷ version 1 (1 ∷ 0 ∷ []) (1 ∷ []) ∷ final (1 ∷ 0 ∷ []) ∷ final_rows 0 ∷ []

-- a deletion and an insertion in one transaction race a query
abbrev pub raced_transaction : Script
raced_transaction = two_sources 4 [] (row2 7 5 ∷ []) (single (Insert 0 (row2 1 5)) ∷ []) ((Delete 1 (row2 7 5) ∷ Insert 1 (row2 8 5) ∷ []) ∷ [])
