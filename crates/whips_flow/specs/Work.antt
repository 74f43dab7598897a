-- The work that is left in a pipeline: a number that each event makes smaller, and so a bound on the drain.
use Rattle.std.specs.Prelude.{ℕ, suc, ◌+◌, ◌-◌, ◌*◌, ◌%◌, List, length, slice_index, sum, if◌then◌else◌}
use Rattle.whips_lists.specs.Lists.{sum_with_place, total, places_from}
use Rattle.whips_flow.specs.Facts.{Facts, view_places}
use Rattle.whips_flow.specs.State.{QueryStep, SourceMessage, sent_transaction, sent_answer, ManagerMessage, update, reply, Source, Manager, Pipeline}

-- ---- queries of view x: each step is answered, integrated and managed, and may let a list go; own

abbrev pub steps_after : Facts → ℕ → QueryStep → ℕ
steps_after f x t = length (f.asked_sources x t.origin) - t.step

abbrev pub ask_work : Facts → ℕ → QueryStep → ℕ
ask_work f x t = 4 * steps_after f x t + 4

abbrev pub answer_work : Facts → ℕ → QueryStep → ℕ
answer_work f x t = 4 * steps_after f x t + 3

abbrev pub query_work : Facts → ℕ → ℕ → ℕ
query_work f x o = 4 * length (f.asked_sources x o)

-- ---- transactions: the manager of each concerned view takes one, may let a list go, and asks its queries; own

abbrev pub update_work : Facts → ℕ → ℕ → ℕ → ℕ
update_work f y k x = total (query_work f x) (f.origins y k x) + 2

abbrev pub manager_message_work : Facts → ℕ → ManagerMessage → ℕ
manager_message_work f x (update n) = update_work f n.source n.place x
manager_message_work f x (reply t) = 4 * steps_after f x t + 2

-- a row is begun, changes at most as many rows of views as there are slots, and is published
abbrev pub row_work : Facts → ℕ
row_work f = sum f.slots + 2

abbrev pub concerned_work : Facts → ℕ → ℕ → ℕ → ℕ
concerned_work f y k x = if f.concerns y k x then update_work f y k x else 0

abbrev pub transaction_work : Facts → ℕ → ℕ → ℕ
transaction_work f y k = total (concerned_work f y k) (view_places f) + row_work f + 2

abbrev pub message_work : Facts → ℕ → SourceMessage → ℕ
message_work f y (sent_transaction k) = transaction_work f y k
message_work f y (sent_answer x t) = answer_work f x t

-- ---- the actors; own

abbrev pub asks_work : Facts → ℕ → List QueryStep → ℕ
asks_work f x ts = total (ask_work f x) ts

-- the transactions that source y hasn't committed
abbrev pub uncommitted : Facts → ℕ → Source → List ℕ
uncommitted f y s = places_from (suc s.commit_count) (slice_index f.transactions y - s.commit_count)

abbrev pub source_work : Facts → ℕ → Source → ℕ
source_work f y s = total (λ k. suc (transaction_work f y k)) (uncommitted f y s) + total (message_work f y) s.messages + sum_with_place (asks_work f) 0 s.asks

abbrev pub manager_work : Facts → ℕ → Manager → ℕ
manager_work f x m = total (manager_message_work f x) m.messages + length m.lists

-- announced rows, rows of the table and row sets, the changes left, and a publish
abbrev pub work : Facts → Pipeline → ℕ
work f p = sum_with_place (source_work f) 0 p.sources + sum_with_place (manager_work f) 0 p.managers + suc (row_work f) * length p.announcements + row_work f * (length p.merge.table.rows + length p.merge.row_sets) + p.writer.changes_left + p.writer.phase % 2
