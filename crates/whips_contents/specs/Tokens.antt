-- The pipeline with its contents, as the machine over numbers sees it.
use Rattle.std.specs.Prelude.{ℕ, suc, ◌-◌, List, [], ◌∷◌, map}
use Rattle.whips_flow.specs.State.{QueryStep, SourceMessage, sent_transaction, sent_answer, ManagerMessage, update, reply, Source, Manager, Pipeline}
use Rattle.whips_actions.specs.declared.action.ActionList.{ActionList}
use Rattle.whips_managers.specs.Managers.{Query}
use Rattle.whips_query.specs.declared.asks.Ask.{Ask}
use Rattle.whips_query.specs.declared.asks.Reply.{Reply}
use Rattle.whips_store.specs.Stores.{changes_left}
use Rattle.whips_order.specs.declared.message.Message.{Message}
use Rattle.whips_order.specs.declared.message.Message.TheVariants.{Update, Reply as SentReply}
use Rattle.whips_contents.specs.Contents.{ManagerInput, numbered_transaction, reply_to_ask, LoadedSource, LoadedManager, LoadedPipeline}
use Rattle.whips_contents.specs.Events.{row_announced}

-- ---- steps of queries

abbrev pub ask_step : Ask → QueryStep
ask_step a = record { number = a.update; origin = a.origin; step = a.step }

abbrev pub reply_step : Reply → QueryStep
reply_step r = record { number = r.update; origin = r.origin; step = r.step }

abbrev pub open_step : Query → QueryStep
open_step q = record { number = q.transaction; origin = q.origin; step = q.step }

-- ---- sources

abbrev pub transactions_in : List Message → ℕ
transactions_in [] = 0
transactions_in (Update t ∷ ms) = suc (transactions_in ms)
transactions_in (SentReply r ∷ ms) = transactions_in ms

-- the messages, of which the transactions have the places behind k
abbrev pub message_tokens : ℕ → List Message → List SourceMessage
message_tokens k [] = []
message_tokens k (Update t ∷ ms) = sent_transaction (suc k) ∷ message_tokens (suc k) ms
message_tokens k (SentReply r ∷ ms) = sent_answer r.view (reply_step r) ∷ message_tokens k ms

abbrev pub source_tokens : LoadedSource → Source
source_tokens s = record {
  commit_count = s.site.commits;
  messages = message_tokens (s.site.commits - transactions_in s.messages) s.messages;
  asks = map (map ask_step) s.asks;
  log = s.site.log;
}

-- ---- managers

abbrev pub input_token : ManagerInput → ManagerMessage
input_token (numbered_transaction n t) = update n
input_token (reply_to_ask r) = reply (reply_step r)

abbrev pub manager_tokens : LoadedManager → Manager
manager_tokens m = record {
  messages = map input_token m.messages;
  open_steps = map open_step m.manager.state.queries;
  last_number = m.manager.state.last;
  lists = map (λ (l : ActionList). l.upto) m.lists;
}

-- ---- all

-- The machine's pipeline, for this many views.
abbrev pub tokens : ℕ → LoadedPipeline → Pipeline
tokens views l = record {
  sources = map source_tokens l.sources;
  numbering = l.numbering;
  managers = map manager_tokens l.managers;
  announcements = map (row_announced views) l.announcements;
  merge = l.merge.merge;
  writer = record { phase = l.store.phase; changes_left = changes_left l.store; earlier_cuts = l.earlier_cuts; cut = l.cut; target_cut = l.target_cut };
}
