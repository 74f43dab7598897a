-- What each event does to the pipeline with its contents, by the functions that the stages' contracts name.
use Rattle.std.specs.Prelude.{ℕ, suc, ◌==◌, ◌&&◌, ◌%◌, Bool, false, not, nat_lt, List, [], ◌∷◌, ◌++◌, length, map, take, filter, fold, slice_get, Option, Some, None, is_some, if◌then◌else◌}
use Rattle.std.specs.Option.{option_and_then}
use Rattle.whips_lists.specs.Lists.{changed_at, front, without_front}
use Rattle.whips_flow.specs.State.{NumberedTransaction}
use Rattle.whips_flow.specs.Painted.{Row}
use Rattle.whips_flow.specs.declared.event.Event.{Event}
use Rattle.whips_flow.specs.declared.event.Event.TheVariants.{Commit, Answer, Integrate, Manage, Rel, Act, Begin, Change, Publish, SessionOpen, SessionScan, SessionFetch, SessionClose}
use Rattle.whips_model.specs.Tuples.{Codes}
use Rattle.whips_changes.specs.Changes.{net_changes}
use Rattle.whips_view.specs.ViewDefs.{View, keyed, row_columns}
use Rattle.whips_actions.specs.declared.action.ActionList.{ActionList}
use Rattle.whips_actions.specs.Acts.{applied}
use Rattle.whips_setup.specs.Setups.{SetupData}
use Rattle.whips_facts.specs.Scripts.{Script}
use Rattle.whips_managers.specs.Managers.{ManagerState, with_transaction, with_reply, without_list}
use Rattle.whips_managers.specs.Messages.{AskData, new_asks, asks_after}
use Rattle.whips_merge.specs.declared.lists.Transaction.{Transaction}
use Rattle.whips_merge.specs.Merging.{announced_row, after_rel, after_act, after_next}
use Rattle.whips_query.specs.declared.asks.Ask.{Ask}
use Rattle.whips_query.specs.declared.asks.Reply.{Reply}
use Rattle.whips_store.specs.Stores.{ViewState, StoreState, ChangeLists, changes_left}
use Rattle.whips_store.specs.declared.error.StoreErr.{StoreErr}
use Rattle.whips_store.specs.Calls.{shortage, begun, changed_once, published}
use Rattle.whips_order.specs.declared.message.Message.{Message}
use Rattle.whips_order.specs.declared.message.Message.TheVariants.{Update, Reply as SentReply}
use Rattle.whips_order.specs.declared.message.Forward.{Forward}
use Rattle.whips_order.specs.declared.message.Forward.TheVariants.{Numbered, Reply as ForwardedReply}
use Rattle.whips_order.specs.Numbering.{numbering_after, forward_of}
use Rattle.whips_source.specs.Sites.{after_commit, after_answer, reply_of}
use Rattle.whips_strobe.specs.Strobes.{ManagerData}
use Rattle.whips_strobe.specs.Outs.{all_sent_by, list_by}
use Rattle.whips_contents.specs.Contents.{ManagerInput, numbered_transaction, reply_to_ask, Announcement, LoadedSource, LoadedManager, LoadedPipeline, start_loaded}

-- ---- commit: the source makes its next transaction and sends it; Strobe 1996

abbrev pub source_after_commit : LoadedSource → LoadedSource
source_after_commit s = record s { site = after_commit s.site; messages = s.messages ++ map (λ t. Update t) (take 1 s.site.left) }

-- ---- answer: the source answers an ask of view x behind all that it sent before; Strobe 1996

abbrev pub sent_reply : Option Reply → List Message
sent_reply None = []
sent_reply (Some r) = SentReply r ∷ []

abbrev pub source_after_answer : ℕ → Option Ask → LoadedSource → LoadedSource
source_after_answer x None s = s
source_after_answer x (Some ask) s = record s { site = after_answer ask s.site; messages = s.messages ++ sent_reply (reply_of s.site ask); asks = changed_at x without_front s.asks }

abbrev pub oldest_ask_to : ℕ → LoadedSource → Option Ask
oldest_ask_to x s = option_and_then front (slice_get s.asks x)

abbrev pub source_after_oldest_ask : ℕ → LoadedSource → LoadedSource
source_after_oldest_ask x s = source_after_answer x (oldest_ask_to x s) s

-- ---- integrate: a transaction is numbered, handed on to the managers of the views that it concerns, and announced; a reply is handed on; the painting algorithm 1997

abbrev pub without_oldest_message : LoadedSource → LoadedSource
without_oldest_message s = record s { messages = without_front s.messages }

abbrev pub with_input : ManagerInput → LoadedManager → LoadedManager
with_input i m = record m { messages = m.messages ++ i ∷ [] }

-- each of these views' managers gets the message
abbrev pub all_with_input : ManagerInput → List LoadedManager → List ℕ → List LoadedManager
all_with_input i managers views = fold (λ ms x. changed_at x (with_input i) ms) managers views

-- a transaction is announced where it concerns some view
abbrev pub announced : NumberedTransaction → List ℕ → List Announcement
announced n [] = []
announced n (x ∷ views) = record { transaction = n; concerned = x ∷ views } ∷ []

abbrev pub after_forward : ℕ → Forward → LoadedPipeline → LoadedPipeline
after_forward y (Numbered number place t concerned) l = record l {
  managers = all_with_input (numbered_transaction (record { number = number; source = y; place = place }) t) l.managers concerned;
  announcements = l.announcements ++ announced (record { number = number; source = y; place = place }) concerned;
}
after_forward y (ForwardedReply r) l = record l { managers = changed_at r.view (with_input (reply_to_ask r)) l.managers }

abbrev pub after_integrate : SetupData → ℕ → Option Message → LoadedPipeline → LoadedPipeline
after_integrate s y None l = l
after_integrate s y (Some m) l = after_forward y (forward_of s.views l.numbering y m) (record l { numbering = numbering_after y m l.numbering; sources = changed_at y without_oldest_message l.sources })

abbrev pub oldest_message : LoadedPipeline → ℕ → Option Message
oldest_message l y = option_and_then (λ s. front s.messages) (slice_get l.sources y)

-- ---- manage: the manager takes a message, asks, and where no query is open its list leaves; Strobe 1996

-- the manager after the message, before its list leaves
abbrev pub state_after_input : ManagerData → ManagerInput → ManagerState
state_after_input m (numbered_transaction n t) = with_transaction (keyed m.view) (row_columns m.view) m.state n.number t
state_after_input m (reply_to_ask r) = with_reply (keyed m.view) (row_columns m.view) m.state r.update r.origin r.partials

abbrev pub asks_after_input : ManagerData → ManagerInput → List AskData
asks_after_input m (numbered_transaction n t) = new_asks (keyed m.view) m.state (with_transaction (keyed m.view) (row_columns m.view) m.state n.number t)
asks_after_input m (reply_to_ask r) = asks_after (keyed m.view) m.state.queries r.update r.origin r.partials

abbrev pub list_or_none : Option ActionList → List ActionList
list_or_none None = []
list_or_none (Some l) = l ∷ []

abbrev pub manager_after_input : ManagerInput → LoadedManager → LoadedManager
manager_after_input i m = record m {
  manager = record (m.manager) { state = without_list (state_after_input m.manager i) };
  messages = without_front m.messages;
  lists = m.lists ++ list_or_none (list_by m.manager.number (state_after_input m.manager i));
}

abbrev pub with_ask_of : ℕ → Ask → LoadedSource → LoadedSource
with_ask_of x ask s = record s { asks = changed_at x (λ q. q ++ ask ∷ []) s.asks }

-- each ask is put among those of view x at the source that it asks
abbrev pub all_asked : ℕ → List LoadedSource → List (ℕ × Ask) → List LoadedSource
all_asked x sources asks = fold (λ ss sent. changed_at sent.0 (with_ask_of x sent.1) ss) sources asks

abbrev pub after_input : ℕ → LoadedManager → Option ManagerInput → LoadedPipeline → LoadedPipeline
after_input x m None l = l
after_input x m (Some i) l = record l { managers = changed_at x (manager_after_input i) l.managers; sources = all_asked x l.sources (all_sent_by m.manager.number (asks_after_input m.manager i)) }

abbrev pub after_manage : ℕ → Option LoadedManager → LoadedPipeline → LoadedPipeline
after_manage x None l = l
after_manage x (Some m) l = after_input x m (front m.messages) l

abbrev pub oldest_input : LoadedPipeline → ℕ → Option ManagerInput
oldest_input l x = option_and_then (λ m. front m.messages) (slice_get l.managers x)

-- ---- rel, act: an announcement, a list comes to the merge; the painting algorithm 1997

abbrev pub row_announced : ℕ → Announcement → Row
row_announced views a = announced_row views a.transaction.number a.transaction.source a.transaction.place a.concerned

abbrev pub after_announcement : Option Announcement → LoadedPipeline → LoadedPipeline
after_announcement None l = l
after_announcement (Some a) l = record l { announcements = without_front l.announcements; merge = after_rel (row_announced (length l.merge.lists) a) l.merge }

abbrev pub without_oldest_list : LoadedManager → LoadedManager
without_oldest_list m = record m { lists = without_front m.lists }

abbrev pub after_list : ℕ → Option ActionList → LoadedPipeline → LoadedPipeline
after_list x None l = l
after_list x (Some list) l = record l { managers = changed_at x without_oldest_list l.managers; merge = after_act list l.merge }

abbrev pub oldest_list : LoadedPipeline → ℕ → Option ActionList
oldest_list l x = option_and_then (λ m. front m.lists) (slice_get l.managers x)

-- ---- begin: the writer begins the oldest transaction that waits; 2VNL 1997

-- the view's rows after those of the lists that are its own, in order
abbrev pub rows_after : ℕ → View → List ActionList → List Codes → List Codes
rows_after x view lists rows = fold (λ rows list. applied (keyed view) list.actions rows) rows (filter (λ list. list.view == x) lists)

-- for each view, of which the first here is number x, its rows after the lists, and the net changes that lead there
abbrev pub changes_of : ℕ → List View → List ViewState → List ActionList → ChangeLists
changes_of x [] vs lists = []
changes_of x (view ∷ views) [] lists = []
changes_of x (view ∷ views) (v ∷ vs) lists = (record { columns = v.columns; rows = rows_after x view lists v.current }, net_changes v.columns.key v.current (rows_after x view lists v.current)) ∷ changes_of (suc x) views vs lists

abbrev pub changes_of_transaction : SetupData → StoreState → Transaction → ChangeLists
changes_of_transaction s store t = changes_of 0 s.views store.views t.lists

abbrev pub after_begin : SetupData → Option Transaction → LoadedPipeline → LoadedPipeline
after_begin s None l = l
after_begin s (Some t) l = record l { merge = after_next l.merge; store = begun (changes_of_transaction s l.store t) l.store; target_cut = t.cut }

-- ---- change, publish: one row is changed; the transaction is committed as the next version; 2VNL 1997

abbrev pub after_publish : LoadedPipeline → LoadedPipeline
after_publish l = record l { store = published l.store; earlier_cuts = l.earlier_cuts ++ l.cut ∷ []; cut = l.target_cut }

-- ---- all events

abbrev pub has_transaction_left : Option LoadedSource → Bool
has_transaction_left None = false
has_transaction_left (Some s) = nat_lt 0 (length s.site.left)

-- Whether the event can be done now: it takes from a queue that has an entry, and begin only between maintenance transactions.
abbrev pub is_enabled_loaded : LoadedPipeline → Event → Bool
is_enabled_loaded l (Commit y) = has_transaction_left (slice_get l.sources y)
is_enabled_loaded l (Answer y x) = is_some (option_and_then (oldest_ask_to x) (slice_get l.sources y))
is_enabled_loaded l (Integrate y) = is_some (oldest_message l y)
is_enabled_loaded l (Manage x) = is_some (oldest_input l x)
is_enabled_loaded l Rel = is_some (front l.announcements)
is_enabled_loaded l (Act x) = is_some (oldest_list l x)
is_enabled_loaded l Begin = is_some (front l.merge.transactions) && (l.store.phase % 2 == 0)
is_enabled_loaded l Change = nat_lt 0 (changes_left l.store)
is_enabled_loaded l Publish = (l.store.phase % 2 == 1) && (changes_left l.store == 0)
is_enabled_loaded l (SessionOpen s) = false
is_enabled_loaded l (SessionScan s x) = false
is_enabled_loaded l (SessionFetch s n) = false
is_enabled_loaded l (SessionClose s) = false

-- The pipeline after an event that can be done.
abbrev pub next_loaded : SetupData → LoadedPipeline → Event → LoadedPipeline
next_loaded s l (Commit y) = record l { sources = changed_at y source_after_commit l.sources }
next_loaded s l (Answer y x) = record l { sources = changed_at y (source_after_oldest_ask x) l.sources }
next_loaded s l (Integrate y) = after_integrate s y (oldest_message l y) l
next_loaded s l (Manage x) = after_manage x (slice_get l.managers x) l
next_loaded s l Rel = after_announcement (front l.announcements) l
next_loaded s l (Act x) = after_list x (oldest_list l x) l
next_loaded s l Begin = after_begin s (front l.merge.transactions) l
next_loaded s l Change = record l { store = changed_once l.store }
next_loaded s l Publish = after_publish l
next_loaded s l (SessionOpen x) = l
next_loaded s l (SessionScan x y) = l
next_loaded s l (SessionFetch x n) = l
next_loaded s l (SessionClose x) = l

-- The first view that has too few slots for the oldest transaction that waits, with what it needs and what it has; nVNL 1997.
abbrev pub begin_refusal : SetupData → LoadedPipeline → Option StoreErr
begin_refusal s l = option_and_then (λ t. shortage l.store (changes_of_transaction s l.store t)) (front l.merge.transactions)

-- Whether a view has too few slots for the event, which only a begin needs.
abbrev pub is_full_for : SetupData → LoadedPipeline → Event → Bool
is_full_for s l Begin = is_some (begin_refusal s l)
is_full_for s l _ = false

-- An event that can't be done changes nothing, nor does a begin with too few slots.
abbrev pub step_loaded : SetupData → LoadedPipeline → Event → LoadedPipeline
step_loaded s l e = if is_enabled_loaded l e && not (is_full_for s l e) then next_loaded s l e else l

-- The pipeline after a list of events.
abbrev pub after_loaded : SetupData → LoadedPipeline → List Event → LoadedPipeline
after_loaded s l es = fold (step_loaded s) l es

-- The pipeline of a script that begins with this store, after a list of events.
abbrev pub loaded_with : Script → StoreState → List Event → LoadedPipeline
loaded_with s store es = after_loaded s.setup (start_loaded s.setup s.work store) es
