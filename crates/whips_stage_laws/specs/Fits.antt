-- What holds of the contents of the pipeline at every moment: of the sources and the messages that they sent, of the asks and the answers, and of the managers and their lists.
use Rattle.std.specs.Prelude.{◌≡◌, ℕ, suc, ◌+◌, ◌<◌, ◌≤◌, ◌==◌, ◌&&◌, Bool, true, false, cond, List, [], ◌∷◌, ◌++◌, length, map, take, drop, slice_get, slice_index_or, Option, Some, None}
use Rattle.std.specs.Option.{unwrap_or}
use Rattle.std.specs.List.{AllByRecursion}
use Rattle.whips_lists.specs.Lists.{sum_with_place, total}
use Rattle.whips_lists.specs.Members.{Has}
use Rattle.whips_flow.specs.State.{NumberedTransaction, count_of_source}
use Rattle.whips_model.specs.Tuples.{Codes}
use Rattle.whips_model.specs.Relation.{Table, value_of}
use Rattle.whips_choices.specs.KeyedViews.{KeyedView, IsKeyedView}
use Rattle.whips_rel.specs.Updates.{relation_of}
use Rattle.whips_states.specs.States.{Updates, all_applied, AreValid, AreAllValid}
use Rattle.whips_states.specs.Concerns.{concerns}
use Rattle.whips_states.specs.Net.{relation_at}
use Rattle.whips_view.specs.ViewDefs.{View, keyed}
use Rattle.whips_actions.specs.Acts.{applied as made}
use Rattle.whips_actions.specs.declared.action.ActionList.{ActionList}
use Rattle.whips_setup.specs.Setups.{SetupData}
use Rattle.whips_steps.specs.Steps.{home, source_of_step, step_parts}
use Rattle.whips_steps.specs.Answers.{tables_of, step_answer}
use Rattle.whips_facts.specs.Scripts.{Script, transaction_at}
use Rattle.whips_managers.specs.Managers.{Query, ManagerState}
use Rattle.whips_managers.specs.Messages.{ask_of}
use Rattle.whips_managers.specs.Invariants.{Keeps}
use Rattle.whips_query.specs.declared.asks.Ask.{Ask}
use Rattle.whips_query.specs.declared.asks.Reply.{Reply}
use Rattle.whips_order.specs.declared.message.Message.{Message}
use Rattle.whips_order.specs.declared.message.Message.TheVariants.{Update, Reply as SentReply}
use Rattle.whips_source.specs.Sites.{SiteState, AreOf, AreTransactionsOf}
use Rattle.whips_manager_trans_laws.specs.Laws.{AreRelationsOf}
use Rattle.whips_strobe.specs.Outs.{sent_by}
use Rattle.whips_contents.specs.Contents.{ManagerInput, numbered_transaction, reply_to_ask, LoadedSource, LoadedManager, LoadedPipeline}

-- ---- the relations after numbered transactions

abbrev pub content : Script → NumberedTransaction → Updates
content s k = transaction_at s k.source k.place

abbrev pub relations_after : Script → List NumberedTransaction → List Table
relations_after s ks = all_applied s.setup.initial (map (content s) ks)

abbrev pub transactions_of : Script → ℕ → List Updates
transactions_of s y = unwrap_or (slice_get s.work y) []

-- Both have the same relations of source y, where the home of each relation is given.
abbrev pub AgreeAt : List ℕ → ℕ → List Table → List Table → Type 0
AgreeAt homes y db others = (r : ℕ) → slice_get homes r ≡ Some y → slice_get db r ≡ slice_get others r

abbrev pub IsOwn : List ℕ → ℕ → Updates → Type 0
IsOwn homes y t = AllByRecursion (λ u. slice_get homes (relation_of u) ≡ Some y) t

-- ---- what a view and a setup must be

-- The view has its keys in its rows, its relations are there at the start, and each is at the source that the view has as its home.
pub record FitsSetup (s : SetupData) (v : KeyedView) : Type 0 where
  pub view : IsKeyedView v
  pub relations : AreRelationsOf v s.initial
  pub homes : (part : ℕ) → part < length v.keys → slice_get s.homes (relation_at v part) ≡ Some (home v part)

-- ---- answers and asks

-- The reply answers the step at which a query of the manager is, on these relations. From Strobe in its idea.
pub record AnswersOn (v : KeyedView) (m : ManagerState) (db : List Table) (r : Reply) : Type 0 where
  pub query : Query
  pub open_query : Has query m.queries
  pub transaction_is : query.transaction ≡ r.update
  pub origin_is : query.origin ≡ r.origin
  pub step_is : query.step ≡ r.step
  pub answer : r.partials ≡ step_answer v.base db (step_parts v query.origin query.step) query.partials

-- The reply is of source y, and answers an open query of its view's manager, on these relations.
pub record IsAnswerOf (managers : List LoadedManager) (y : ℕ) (db : List Table) (r : Reply) : Type 0 where
  pub manager : LoadedManager
  pub there : slice_get managers r.view ≡ Some manager
  pub answers : AnswersOn (keyed manager.manager.view) manager.manager.state db r
  pub asked : source_of_step (keyed manager.manager.view) r.origin r.step ≡ y

-- The ask is what an open query of the manager of view x asks source y.
pub record IsAskFor (managers : List LoadedManager) (y x : ℕ) (ask : Ask) : Type 0 where
  pub manager : LoadedManager
  pub there : slice_get managers x ≡ Some manager
  pub query : Query
  pub open_query : Has query manager.manager.state.queries
  pub sent : sent_by x (ask_of (keyed manager.manager.view) query) ≡ (y, ask)

-- ---- a source

-- The source has made its first k transactions, and its own relations are as these.
pub record IsSiteAt (s : Script) (y k : ℕ) (db : List Table) (site : SiteState) : Type 0 where
  pub views : site.views ≡ s.setup.views
  pub commits : site.commits ≡ k
  pub left : site.left ≡ drop k (transactions_of s y)
  pub relations : AgreeAt s.setup.homes y db site.relations
  pub valid : AreAllValid site.relations site.left
  pub own : AreOf s.setup.homes y site.left

-- The messages of a source, which it sent from its relations db on, of which k of its transactions had been made: a transaction is the one of its place, a reply fits the relations as they were when it was sent, and behind all messages the source is as it is now. Strobe 1996, whose premise is that messages of one source are taken in the order sent.
abbrev pub MessagesFit : Script → (List Table → Reply → Type 0) → ℕ → ℕ → List Table → List Message → SiteState → Type 0
MessagesFit s A y k db [] site = IsSiteAt s y k db site
MessagesFit s A y k db (Update t ∷ ms) site = (t ≡ transaction_at s y (suc k)) × AreValid db t × IsOwn s.setup.homes y t × MessagesFit s A y (suc k) (all_applied db (t ∷ [])) ms site
MessagesFit s A y k db (SentReply r ∷ ms) site = A db r × MessagesFit s A y k db ms site

-- A source: what the integrator took of it is what is numbered, and behind that come its messages.
pub record SourceFits (s : Script) (A : List Table → Reply → Type 0) (numbering : List NumberedTransaction) (y : ℕ) (z : LoadedSource) : Type 0 where
  pub relations : List Table
  pub agree : AgreeAt s.setup.homes y relations (relations_after s numbering)
  pub messages : MessagesFit s A y (count_of_source numbering y) relations z.messages z.site

-- ---- a manager

abbrev pub AllMiss : Script → KeyedView → List NumberedTransaction → Type 0
AllMiss s v ks = AllByRecursion (λ k. concerns v.base (content s k) ≡ false) ks

-- The messages of a manager which stands after the transactions before, where those after are numbered behind these: each transaction comes in its turn, those that don't concern the view are left out, and a reply fits the relations somewhere between the transactions round it.
abbrev pub InputsFit : Script → KeyedView → (List Table → Reply → Type 0) → List NumberedTransaction → List NumberedTransaction → List ManagerInput → Type 0
InputsFit s v A before after [] = AllMiss s v after
InputsFit s v A before after (numbered_transaction k t ∷ ms) =
    (skipped : List NumberedTransaction) × (rest : List NumberedTransaction) × (after ≡ skipped ++ k ∷ rest) × AllMiss s v skipped × (k.number ≡ suc (length (before ++ skipped))) × (t ≡ content s k) × (concerns v.base t ≡ true)
    × InputsFit s v A ((before ++ skipped) ++ k ∷ []) rest ms
InputsFit s v A before after (reply_to_ask r ∷ ms) =
    (skipped : List NumberedTransaction) × (rest : List NumberedTransaction) × (after ≡ skipped ++ rest) × AllMiss s v skipped × A (relations_after s (before ++ skipped)) r
    × InputsFit s v A (before ++ skipped) rest ms

-- The view's value after the first j numbered transactions.
abbrev pub value_after : Script → KeyedView → List NumberedTransaction → ℕ → List Codes
value_after s v numbering j = value_of v.base (relations_after s (take j numbering))

-- The lists are right one after another: the first takes the view's value after the first j transactions to that at its own number, and so on up to the last number. Strobe 1996.
abbrev pub ListsFit : Script → KeyedView → ℕ → List NumberedTransaction → ℕ → List ActionList → ℕ → Type 0
ListsFit s v x numbering j [] last = j ≡ last
ListsFit s v x numbering j (l ∷ ls) last = (l.view ≡ x) × (l.upto ≤ length numbering) × (made v l.actions (value_after s v numbering j) ≡ value_after s v numbering l.upto) × ListsFit s v x numbering l.upto ls last

-- The lists of a view that have come to the merge and that no transaction of the warehouse has begun with, and where they are told the view's rows after the lists before and the number of the last of these.
pub record Older : Type 0 where
  pub lists : List ActionList
  pub rows : Option (List Codes)
  pub number : Option ℕ

abbrev pub Shows : Option (List Codes) → List Codes → Type 0
Shows None value = Unit {0}
Shows (Some rows) value = rows ≡ value

abbrev pub Counts : Option ℕ → ℕ → Type 0
Counts None j = Unit {0}
Counts (Some n) j = n ≡ j

-- The manager of view x, of whose lists these older ones have come to the merge: it stands after the first of the numbered transactions, and with the view's value at its last list; its messages fit the others; the older lists and those on their way are right.
pub record ManagerFits (s : Script) (older : Older) (numbering : List NumberedTransaction) (x : ℕ) (m : LoadedManager) : Type 0 where
  pub view : slice_get s.setup.views x ≡ Some m.manager.view
  pub number : m.manager.number ≡ x
  pub before : List NumberedTransaction
  pub after : List NumberedTransaction
  pub split : numbering ≡ before ++ after
  pub first_list : ℕ
  pub last_list : ℕ
  pub first_known : first_list ≤ length numbering
  pub known : last_list ≤ length before
  pub keeps : Keeps (keyed m.manager.view) (tables_of m.manager.view.parts (relations_after s before)) (value_after s (keyed m.manager.view) numbering last_list) m.manager.state
  pub taken : m.manager.state.last ≤ length before
  pub same_value : value_after s (keyed m.manager.view) numbering m.manager.state.last ≡ value_of m.manager.view.parts (relations_after s before)
  pub inputs : InputsFit s (keyed m.manager.view) (AnswersOn (keyed m.manager.view) m.manager.state) before after m.messages
  pub lists : ListsFit s (keyed m.manager.view) x numbering first_list (older.lists ++ m.lists) last_list
  pub shown : Shows older.rows (value_after s (keyed m.manager.view) numbering first_list)
  pub counted : Counts older.number first_list

-- ---- no query is asked twice

abbrev pub has_name : ℕ × ℕ → ℕ → ℕ → Bool
has_name name transaction origin = (transaction == name.0) && (origin == name.1)

abbrev pub asks_named : ℕ × ℕ → Ask → ℕ
asks_named name a = cond (has_name name a.update a.origin) 1 0

abbrev pub messages_named : ℕ → ℕ × ℕ → Message → ℕ
messages_named x name (Update t) = 0
messages_named x name (SentReply r) = cond ((r.view == x) && has_name name r.update r.origin) 1 0

abbrev pub inputs_named : ℕ × ℕ → ManagerInput → ℕ
inputs_named name (numbered_transaction k t) = 0
inputs_named name (reply_to_ask r) = cond (has_name name r.update r.origin) 1 0

abbrev pub source_named : ℕ → ℕ × ℕ → ℕ → LoadedSource → ℕ
source_named x name y z = total (asks_named name) (slice_index_or z.asks x []) + total (messages_named x name) z.messages

abbrev pub manager_named : ℕ → ℕ × ℕ → ℕ → LoadedManager → ℕ
manager_named x name w m = cond (w == x) (total (inputs_named name) m.messages) 0

-- How many asks, answers and replies of the query of view x with this name are on their way.
abbrev pub in_flight : ℕ → ℕ × ℕ → LoadedPipeline → ℕ
in_flight x name l = sum_with_place (source_named x name) 0 l.sources + sum_with_place (manager_named x name) 0 l.managers

-- ---- all of it

-- No list that has come to the merge.
abbrev pub no_older : ℕ → Older
no_older x = record { lists = []; rows = None; number = None }

-- What holds of the contents at every moment, where these are the lists of each view that have come to the merge and count.
pub record FitsContents (s : Script) (older : ℕ → Older) (l : LoadedPipeline) : Type 0 where
  pub managers_long : length l.managers ≡ length s.setup.views
  pub valid : AreAllValid s.setup.initial (map (content s) l.numbering)
  pub sources : (y : ℕ) (z : LoadedSource) → slice_get l.sources y ≡ Some z → SourceFits s (IsAnswerOf l.managers y) l.numbering y z
  pub asks : (y x : ℕ) (z : LoadedSource) (asks : List Ask) (a : Ask) → slice_get l.sources y ≡ Some z → slice_get z.asks x ≡ Some asks → Has a asks → IsAskFor l.managers y x a
  pub managers : (x : ℕ) (m : LoadedManager) → slice_get l.managers x ≡ Some m → ManagerFits s (older x) l.numbering x m
  pub once : (x : ℕ) (name : ℕ × ℕ) → in_flight x name l ≤ 1
  pub unnamed : (x : ℕ) (m : LoadedManager) (name : ℕ × ℕ) → slice_get l.managers x ≡ Some m → m.manager.state.last < name.0 → in_flight x name l ≡ 0

-- ---- what a setup and a workload must be

-- There are transactions of each source, of its own relations and valid in turn, and the views are over the setup's relations at their homes.
pub record FitsWork (s : Script) : Type 0 where
  pub views : (x : ℕ) (view : View) → slice_get s.setup.views x ≡ Some view → FitsSetup s.setup (keyed view)
  pub transactions : (y : ℕ) (ts : List Updates) → slice_get s.work y ≡ Some ts → AreTransactionsOf s.setup y ts
