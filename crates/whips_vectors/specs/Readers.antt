-- Sessions that read while the views change, and views with too few slots.
use Rattle.std.specs.Prelude.{ℕ, List, [], ◌∷◌, ◌++◌}
use Rattle.whips_rel.specs.declared.update.Update.TheVariants.{Insert, Delete}
use Rattle.whips_flow.specs.declared.event.Event.{Event}
use Rattle.whips_flow.specs.declared.event.Event.TheVariants.{Commit, Answer, Integrate, Manage, Rel, Act, Begin, Change, Publish, SessionOpen, SessionScan, SessionFetch}
use Rattle.whips_runs.specs.Records.{RunRecord, version, skip, opened, more, read, expired, full, final, final_rows}
use Rattle.whips_facts.specs.Scripts.{Script}
use Rattle.whips_vectors.specs.Scripts.{row2, single, script_of, two_pieces, two_sources, whole_way}

-- ---- three versions

abbrev pub growing : Script
growing = two_sources 8 (row2 1 5 ∷ row2 2 5 ∷ []) [] [] (single (Insert 1 (row2 7 5)) ∷ single (Insert 1 (row2 8 5)) ∷ single (Delete 1 (row2 7 5)) ∷ [])

-- a session opens at version 1 and scans during the next transaction, after it, and during the one after that
abbrev pub reader_plan : List Event
reader_plan = ((whole_way ++ Begin ∷ Change ∷ Change ∷ Publish ∷ SessionOpen 0 ∷ []) ++ whole_way) ++ Begin ∷ Change ∷ SessionScan 0 0 ∷ SessionFetch 0 8 ∷ Change ∷ Publish ∷ SessionScan 0 0 ∷ SessionFetch 0 8 ∷ Commit 1 ∷ Integrate 1 ∷ Rel ∷ Manage 0 ∷ Act 0 ∷ Begin ∷ SessionScan 0 0 ∷ SessionFetch 0 8 ∷ []

abbrev pub reader_records : List RunRecord
reader_records = version 0 (0 ∷ 0 ∷ []) (0 ∷ []) ∷ version 1 (0 ∷ 1 ∷ []) (2 ∷ []) ∷ opened 0 1 2 ∷ read 0 0 1 3 ∷ version 2 (0 ∷ 2 ∷ []) (4 ∷ []) ∷ read 0 0 1 4 ∷ expired 0 0 1 5 ∷ version 3 (0 ∷ 3 ∷ []) (2 ∷ []) ∷ final (0 ∷ 3 ∷ []) ∷ final_rows 0 ∷ []

-- a session opens while the first transaction is active
abbrev pub early_reader_plan : List Event
early_reader_plan = whole_way ++ Begin ∷ SessionOpen 0 ∷ Change ∷ Change ∷ Publish ∷ SessionScan 0 0 ∷ SessionFetch 0 3 ∷ SessionFetch 0 5 ∷ []

abbrev pub early_reader_records : List RunRecord
early_reader_records = version 0 (0 ∷ 0 ∷ []) (0 ∷ []) ∷ opened 0 0 1 ∷ version 1 (0 ∷ 1 ∷ []) (2 ∷ []) ∷ more 0 0 0 2 3 ∷ read 0 0 0 2 ∷ version 2 (0 ∷ 2 ∷ []) (4 ∷ []) ∷ version 3 (0 ∷ 3 ∷ []) (2 ∷ []) ∷ final (0 ∷ 3 ∷ []) ∷ final_rows 0 ∷ []

-- ---- events that aren't enabled

abbrev pub idle : Script
idle = two_sources 4 [] [] [] []

abbrev pub idle_plan : List Event
idle_plan = Manage 0 ∷ SessionOpen 0 ∷ SessionOpen 0 ∷ SessionFetch 0 4 ∷ []

abbrev pub idle_records : List RunRecord
idle_records = version 0 (0 ∷ 0 ∷ []) (0 ∷ []) ∷ skip 1 (Manage 0) ∷ opened 0 0 0 ∷ skip 3 (SessionOpen 0) ∷ skip 4 (SessionFetch 0 4) ∷ final (0 ∷ 0 ∷ []) ∷ final_rows 0 ∷ []

-- ---- few slots

-- one list covers an insertion and a deletion, so their rows need slots beside the earlier ones
abbrev pub crowded : Script
crowded = two_sources 2 (row2 1 5 ∷ row2 2 5 ∷ []) (row2 7 5 ∷ []) (single (Insert 0 (row2 3 5)) ∷ single (Delete 0 (row2 1 5)) ∷ []) []

abbrev pub crowded_plan : List Event
crowded_plan = Commit 0 ∷ Commit 0 ∷ Integrate 0 ∷ Integrate 0 ∷ Manage 0 ∷ Manage 0 ∷ []

abbrev pub crowded_records : List RunRecord
crowded_records = version 0 (0 ∷ 0 ∷ []) (2 ∷ []) ∷ full (record { view = 0; need = 3; slots = 2 }) ∷ []

-- a deletion and then an insertion, each a version, with these slots and versions
abbrev pub vacated : (slots versions : ℕ) → Script
vacated slots versions = script_of (record (two_pieces slots (row2 1 5 ∷ row2 2 5 ∷ []) (row2 7 5 ∷ []) (single (Delete 0 (row2 1 5)) ∷ single (Insert 0 (row2 3 5)) ∷ []) []) { versions = versions })

-- a session of version 0 fetches n slots after both versions
abbrev pub vacated_plan : ℕ → List Event
vacated_plan n = SessionOpen 0 ∷ Commit 0 ∷ Integrate 0 ∷ Rel ∷ Manage 0 ∷ Act 0 ∷ Begin ∷ Change ∷ Publish ∷ Commit 0 ∷ Integrate 0 ∷ Rel ∷ Manage 0 ∷ Answer 1 0 ∷ Integrate 1 ∷ Manage 0 ∷ Act 0 ∷ Begin ∷ SessionScan 0 0 ∷ SessionFetch 0 n ∷ []

abbrev pub vacated_records : RunRecord → List RunRecord
vacated_records r = version 0 (0 ∷ 0 ∷ []) (2 ∷ []) ∷ opened 0 0 0 ∷ version 1 (1 ∷ 0 ∷ []) (1 ∷ []) ∷ r ∷ version 2 (2 ∷ 0 ∷ []) (2 ∷ []) ∷ final (2 ∷ 0 ∷ []) ∷ final_rows 0 ∷ []

abbrev pub vacated_full_records : List RunRecord
vacated_full_records = version 0 (0 ∷ 0 ∷ []) (2 ∷ []) ∷ opened 0 0 0 ∷ version 1 (1 ∷ 0 ∷ []) (1 ∷ []) ∷ full (record { view = 0; need = 3; slots = 2 }) ∷ []
