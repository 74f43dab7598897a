-- The pipeline with its contents: what each stage holds, and what is on its way between them. Queues are lists, oldest entry first.
use Rattle.std.specs.Prelude.{ℕ, false, List, [], length, replicate}
use Rattle.whips_lists.specs.Lists.{map_with_place}
use Rattle.whips_flow.specs.State.{NumberedTransaction}
use Rattle.whips_states.specs.States.{Updates}
use Rattle.whips_view.specs.ViewDefs.{View}
use Rattle.whips_actions.specs.declared.action.ActionList.{ActionList}
use Rattle.whips_setup.specs.Setups.{SetupData}
use Rattle.whips_managers.specs.Managers.{new_manager}
use Rattle.whips_merge.specs.Merging.{MergeState, new_merge}
use Rattle.whips_query.specs.declared.asks.Ask.{Ask}
use Rattle.whips_query.specs.declared.asks.Reply.{Reply}
use Rattle.whips_store.specs.Stores.{StoreState}
use Rattle.whips_order.specs.declared.message.Message.{Message}
use Rattle.whips_source.specs.Sites.{SiteState, new_site}
use Rattle.whips_strobe.specs.Strobes.{ManagerData}

-- ---- what is sent

-- What a manager takes: a transaction, with its number, its source and its place there, or the reply to one of its asks; Strobe 1996.
pub data ManagerInput : Type 0 where
  numbered_transaction : NumberedTransaction → Updates → ManagerInput
  reply_to_ask : Reply → ManagerInput

-- What the integrator announces to the merge: a transaction, and the views that it concerns; the painting algorithm 1997.
pub record Announcement : Type 0 where
  pub transaction : NumberedTransaction
  pub concerned : List ℕ

-- ---- the actors

-- A source with its messages on their way to the integrator, and for each view the asks on their way to it.
pub record LoadedSource : Type 0 where
  pub site : SiteState
  pub messages : List Message
  pub asks : List (List Ask)

-- The manager of a view, with the messages on their way to it and its action lists on their way to the merge.
pub record LoadedManager : Type 0 where
  pub manager : ManagerData
  pub messages : List ManagerInput
  pub lists : List ActionList

-- The whole pipeline: the sources; the numbering, of which the integrator holds the counts; the managers; the announcements on their way; the merge; the store; and the cuts of the versions before the current one, of the current one, and of the transaction that was begun last.
pub record LoadedPipeline : Type 0 where
  pub sources : List LoadedSource
  pub numbering : List NumberedTransaction
  pub managers : List LoadedManager
  pub announcements : List Announcement
  pub merge : MergeState
  pub store : StoreState
  pub earlier_cuts : List (List ℕ)
  pub cut : List ℕ
  pub target_cut : List ℕ

-- ---- the start

abbrev pub new_loaded_source : SetupData → ℕ → List Updates → LoadedSource
new_loaded_source s y transactions = record { site = new_site s y transactions; messages = []; asks = replicate (length s.views) [] }

abbrev pub new_loaded_manager : ℕ → View → LoadedManager
new_loaded_manager x view = record { manager = record { number = x; view = view; stopped = false; state = new_manager 0 }; messages = []; lists = [] }

-- The pipeline of a setup with these transactions of each source, and with this store, before the first event.
abbrev pub start_loaded : SetupData → List (List Updates) → StoreState → LoadedPipeline
start_loaded s work store = record {
  sources = map_with_place (new_loaded_source s) 0 work;
  numbering = [];
  managers = map_with_place new_loaded_manager 0 s.views;
  announcements = [];
  merge = new_merge s;
  store = store;
  earlier_cuts = [];
  cut = replicate s.sources 0;
  target_cut = replicate s.sources 0;
}
