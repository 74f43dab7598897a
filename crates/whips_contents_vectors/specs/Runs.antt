-- Runs of the pipeline with its contents, and what is looked at in them.
use Rattle.std.specs.Prelude.{◌≡◌, ℕ, List, [], ◌∷◌, ◌++◌, length, map}
use Rattle.std.specs.List.{sum_by}
use Rattle.whips_flow.specs.State.{start}
use Rattle.whips_flow.specs.Progress.{after}
use Rattle.whips_flow.specs.declared.event.Event.{Event}
use Rattle.whips_model.specs.Tuples.{Codes}
use Rattle.whips_rel.specs.declared.update.Change.{Change}
use Rattle.whips_actions.specs.declared.action.Action.{Action}
use Rattle.whips_actions.specs.declared.action.ActionList.{ActionList}
use Rattle.whips_facts.specs.Scripts.{Script}
use Rattle.whips_facts.specs.ScriptFacts.{facts_of}
use Rattle.whips_managers.specs.Managers.{Query}
use Rattle.whips_query.specs.declared.asks.Ask.{Ask}
use Rattle.whips_store.specs.Stores.{ViewState, changes_left}
use Rattle.whips_store.specs.First.{store_at_first}
use Rattle.whips_store.specs.Versions.{rows_shown_at}
use Rattle.whips_order.specs.declared.message.Message.{Message}
use Rattle.whips_contents.specs.Contents.{ManagerInput, LoadedSource, LoadedManager, LoadedPipeline}
use Rattle.whips_contents.specs.Events.{loaded_with}
use Rattle.whips_contents.specs.Tokens.{tokens}

-- ---- runs

-- The pipeline of a script after these events, from the store at version 0.
abbrev pub run : Script → List Event → LoadedPipeline
run s events = loaded_with s (store_at_first s.setup) events

-- The pipeline after these events, as numbers, is the machine's state after them.
abbrev pub MeetsMachine : Script → List Event → Type 0
MeetsMachine s events = tokens (length s.setup.views) (run s events) ≡ after (facts_of s) (start (facts_of s)) events

-- The same of the writer's part alone.
abbrev pub MeetsWriter : Script → List Event → Type 0
MeetsWriter s events = (tokens (length s.setup.views) (run s events)).writer ≡ (after (facts_of s) (start (facts_of s)) events).writer

-- ---- what is on its way

-- Of each source, its messages to the integrator.
abbrev pub messages_in : LoadedPipeline → List (List Message)
messages_in l = map (λ (s : LoadedSource). s.messages) l.sources

-- Of each source, the asks to it, view by view.
abbrev pub asks_in : LoadedPipeline → List (List (List Ask))
asks_in l = map (λ (s : LoadedSource). s.asks) l.sources

-- Of each view, the messages to its manager.
abbrev pub inputs_in : LoadedPipeline → List (List ManagerInput)
inputs_in l = map (λ (m : LoadedManager). m.messages) l.managers

-- Of each view, its manager's lists to the merge.
abbrev pub lists_in : LoadedPipeline → List (List ActionList)
lists_in l = map (λ (m : LoadedManager). m.lists) l.managers

-- ---- what a manager and the store hold

-- Of each view, its manager's open queries.
abbrev pub queries_in : LoadedPipeline → List (List Query)
queries_in l = map (λ (m : LoadedManager). m.manager.state.queries) l.managers

-- Of each view, the actions that its manager holds back while a query is open.
abbrev pub actions_in : LoadedPipeline → List (List Action)
actions_in l = map (λ (m : LoadedManager). m.manager.state.actions) l.managers

-- Of each view, its rows at the current version.
abbrev pub rows_now : LoadedPipeline → List (List Codes)
rows_now l = map (λ (v : ViewState). v.current) l.store.views

-- Of each view, what its slots show at a version.
abbrev pub rows_shown : ℕ → LoadedPipeline → List (List Codes)
rows_shown version l = map (λ (v : ViewState). rows_shown_at l.store.versions version v.records) l.store.views

-- Of each view, the changes that the active transaction has still to make.
abbrev pub changes_in : LoadedPipeline → List (List Change)
changes_in l = map (λ (v : ViewState). v.left) l.store.views

-- The cut of each version, oldest first.
abbrev pub cuts_in : LoadedPipeline → List (List ℕ)
cuts_in l = l.earlier_cuts ++ l.cut ∷ []

-- ---- what waits

-- How many of each wait.
pub record Waiting : Type 0 where
  -- transactions that their source has still to make
  pub uncommitted : ℕ
  -- messages, asks, inputs, lists and announcements on their way
  pub messages : ℕ
  pub asks : ℕ
  pub inputs : ℕ
  pub lists : ℕ
  pub announcements : ℕ
  -- queries of managers, and the actions held back
  pub queries : ℕ
  pub actions : ℕ
  -- rows, lists and transactions in the merge
  pub rows : ℕ
  pub merge_lists : ℕ
  pub transactions : ℕ
  -- changes of the active transaction
  pub changes : ℕ

abbrev pub waiting : LoadedPipeline → Waiting
waiting l = record {
  uncommitted = sum_by (λ (s : LoadedSource). length s.site.left) l.sources;
  messages = sum_by (λ (s : LoadedSource). length s.messages) l.sources;
  asks = sum_by (λ (s : LoadedSource). sum_by length s.asks) l.sources;
  inputs = sum_by (λ (m : LoadedManager). length m.messages) l.managers;
  lists = sum_by (λ (m : LoadedManager). length m.lists) l.managers;
  announcements = length l.announcements;
  queries = sum_by (λ (m : LoadedManager). length m.manager.state.queries) l.managers;
  actions = sum_by (λ (m : LoadedManager). length m.manager.state.actions) l.managers;
  rows = length l.merge.merge.table.rows;
  merge_lists = sum_by length l.merge.lists;
  transactions = length l.merge.transactions;
  changes = changes_left l.store;
}

abbrev pub nothing : Waiting
nothing = record { uncommitted = 0; messages = 0; asks = 0; inputs = 0; lists = 0; announcements = 0; queries = 0; actions = 0; rows = 0; merge_lists = 0; transactions = 0; changes = 0 }
