-- What each event does to the state.
use Rattle.std.specs.Prelude.{ℕ, suc, ◌-◌, Bool, true, false, ◌&&◌, ◌==◌, not, nat_lt, List, [], ◌∷◌, ◌++◌, length, drop, map, filter, fold, slice_index, Option, Some, None, if◌then◌else◌}
use Rattle.std.specs.List.{list_any}
use Rattle.std.specs.Option.{option_and_then}
use Rattle.whips_lists.specs.Lists.{changed_at, map_with_place, without_front}
use Rattle.whips_flow.specs.Facts.{Facts, Shortage, view_places}
use Rattle.whips_flow.specs.Painted.{Row, Colour, black, white, with_row}
use Rattle.whips_flow.specs.State.{NumberedTransaction, QueryStep, SourceMessage, sent_transaction, sent_answer, ManagerMessage, update, reply, Source, Manager, Merge, Writer, Pipeline, oldest_row_set, with_source, with_manager}
use Rattle.whips_flow.specs.Settling.{settled_merge}
use Rattle.whips_flow.specs.Cuts.{cut_after}

-- ---- commit: the source applies its next transaction and sends it; Strobe 1996

abbrev pub after_commit : Source → Source
after_commit s = record s { commit_count = suc s.commit_count; messages = s.messages ++ sent_transaction (suc s.commit_count) ∷ [] }

-- ---- answer: the source answers an ask of view x behind all that it sent before; Strobe 1996

abbrev pub after_answer : ℕ → Option QueryStep → Source → Source
after_answer x None s = s
after_answer x (Some t) s = record s { asks = changed_at x without_front s.asks; messages = s.messages ++ sent_answer x t ∷ []; log = s.log ++ (x, t) ∷ [] }

-- ---- integrate: a transaction is numbered, forwarded to the managers of the concerned views and announced to the merge; an answer is forwarded; the painting algorithm 1997

abbrev pub without_message : Source → Source
without_message s = record s { messages = without_front s.messages }

abbrev pub with_manager_message : ManagerMessage → Manager → Manager
with_manager_message n m = record m { messages = m.messages ++ n ∷ [] }

abbrev pub entry_of : Bool → Colour
entry_of true = white
entry_of false = black

-- white where the view is concerned, black elsewhere
abbrev pub row_of : Facts → NumberedTransaction → Row
row_of f n = record { number = n.number; source = n.source; place = n.place; entries = map (λ x. entry_of (f.concerns n.source n.place x)) (view_places f) }

-- a transaction is announced where it concerns some view
abbrev pub announcement_of : Facts → NumberedTransaction → List Row
announcement_of f n = if list_any (λ x. f.concerns n.source n.place x) (view_places f) then row_of f n ∷ [] else []

abbrev pub notified_manager : Facts → NumberedTransaction → ℕ → Manager → Manager
notified_manager f n x m = if f.concerns n.source n.place x then with_manager_message (update n) m else m

abbrev pub after_numbering : Facts → NumberedTransaction → Pipeline → Pipeline
after_numbering f n p = record p {
  numbering = p.numbering ++ n ∷ [];
  managers = map_with_place (notified_manager f n) 0 p.managers;
  announcements = p.announcements ++ announcement_of f n;
}

abbrev pub after_integrate : Facts → ℕ → Option SourceMessage → Pipeline → Pipeline
after_integrate f y None p = p
after_integrate f y (Some (sent_transaction k)) p = after_numbering f (record { number = suc (length p.numbering); source = y; place = k }) p
after_integrate f y (Some (sent_answer x t)) p = with_manager x (with_manager_message (reply t)) p

-- ---- manage: a transaction begins a query at each of its origins with a step; an answer takes its query one step on; where no query is unanswered the manager gives its list; Strobe 1996

abbrev pub without_manager_message : Manager → Manager
without_manager_message m = record m { messages = without_front m.messages }

abbrev pub is_same_query : QueryStep → QueryStep → Bool
is_same_query t u = (t.number == u.number) && (t.origin == u.origin)

abbrev pub next_step : QueryStep → QueryStep
next_step t = record t { step = suc t.step }

abbrev pub with_ask : ℕ → QueryStep → Source → Source
with_ask x t s = record s { asks = changed_at x (λ q. q ++ t ∷ []) s.asks }

-- the step is put among the asks of its own source
abbrev pub with_step_asked : Facts → ℕ → Pipeline → QueryStep → Pipeline
with_step_asked f x p t = with_source (slice_index (f.asked_sources x t.origin) (t.step - 1)) (with_ask x t) p

-- the first step of each new query of a transaction in view x; an origin with no source to ask has none
abbrev pub first_steps : Facts → ℕ → NumberedTransaction → List QueryStep
first_steps f x n = map (λ o. record { number = n.number; origin = o; step = 1 }) (filter (λ o. nat_lt 0 (length (f.asked_sources x o))) (f.origins n.source n.place x))

abbrev pub with_transaction : Facts → ℕ → NumberedTransaction → Manager → Manager
with_transaction f x n m = record m { last_number = n.number; open_steps = m.open_steps ++ first_steps f x n }

abbrev pub advanced_step : QueryStep → QueryStep → QueryStep
advanced_step t u = if is_same_query t u then next_step t else u

-- the query goes on to its next step
abbrev pub with_next_step : QueryStep → Manager → Manager
with_next_step t m = record m { open_steps = map (advanced_step t) m.open_steps }

-- the query is answered
abbrev pub without_query : QueryStep → Manager → Manager
without_query t m = record m { open_steps = filter (λ u. not (is_same_query t u)) m.open_steps }

abbrev pub after_message : Facts → ℕ → Option ManagerMessage → Pipeline → Pipeline
after_message f x None p = p
after_message f x (Some (update n)) p = fold (with_step_asked f x) (with_manager x (with_transaction f x n) p) (first_steps f x n)
after_message f x (Some (reply t)) p =
    if nat_lt t.step (length (f.asked_sources x t.origin))
    then with_step_asked f x (with_manager x (with_next_step t) p) (next_step t)
    else with_manager x (without_query t) p

abbrev pub with_list_unless : List QueryStep → Manager → Manager
with_list_unless [] m = record m { lists = m.lists ++ m.last_number ∷ [] }
with_list_unless (t ∷ ts) m = m

-- a list, named by the last transaction taken, where no step is open
abbrev pub with_list_if_answered : Manager → Manager
with_list_if_answered m = with_list_unless m.open_steps m

-- ---- rel: an announced row comes into the table; the painting algorithm 1997

abbrev pub with_announced_row : Row → Merge → Merge
with_announced_row r m = record m { table = with_row r m.table }

abbrev pub after_rel : Option Row → Pipeline → Pipeline
after_rel None p = p
after_rel (Some r) p = record p { announcements = without_front p.announcements; merge = settled_merge (with_announced_row r p.merge) }

-- ---- act: a manager's list comes to the merge; the painting algorithm 1997

abbrev pub without_list : Manager → Manager
without_list m = record m { lists = without_front m.lists }

abbrev pub with_waiting_list : ℕ → ℕ → Merge → Merge
with_waiting_list x j m = record m { waiting_lists = changed_at x (λ js. js ++ j ∷ []) m.waiting_lists }

abbrev pub after_act : ℕ → Option ℕ → Pipeline → Pipeline
after_act x None p = p
after_act x (Some j) p = record p { managers = changed_at x without_list p.managers; merge = settled_merge (with_waiting_list x j p.merge) }

-- ---- begin: the writer begins the oldest waiting row set as a maintenance transaction; 2VNL 1997

-- the cut that the oldest waiting row set leads to
abbrev pub next_cut : Pipeline → Option (List ℕ)
next_cut p = option_and_then (λ set. Some (cut_after p.writer.cut set)) (oldest_row_set p)

-- the cuts of the published versions whose rows need slots beside those of the next one: the current version and the n - 2 before it; after nVNL 1997
abbrev pub cuts_in_use : Facts → Writer → List (List ℕ)
cuts_in_use f w = drop (length w.earlier_cuts - (f.versions - 2)) w.earlier_cuts ++ w.cut ∷ []

-- the first view that has too few slots for the oldest waiting row set; own
abbrev pub begin_shortage : Facts → Pipeline → Option Shortage
begin_shortage f p = option_and_then (λ cut. f.shortage (cuts_in_use f p.writer ++ cut ∷ [])) (next_cut p)

abbrev pub without_row_set : Merge → Merge
without_row_set m = record m { row_sets = without_front m.row_sets }

abbrev pub after_begin : Facts → Option (List ℕ) → Pipeline → Pipeline
after_begin f None p = p
after_begin f (Some cut) p = record p {
  merge = without_row_set p.merge;
  writer = record (p.writer) { phase = suc p.writer.phase; changes_left = f.change_count p.writer.cut cut; target_cut = cut };
}

-- ---- change, publish: one row is changed; the transaction commits as the next version; 2VNL 1997

abbrev pub after_change : Writer → Writer
after_change w = record w { changes_left = w.changes_left - 1 }

abbrev pub after_publish : Writer → Writer
after_publish w = record w { phase = suc w.phase; earlier_cuts = w.earlier_cuts ++ w.cut ∷ []; cut = w.target_cut }
