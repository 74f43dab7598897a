-- That each stage may be asked what an event asks of it: the conditions of the stages' calls, where the event is enabled.
use Rattle.std.specs.Prelude.{◌≡◌, ◌≢◌, ℕ, List, ◌<◌, ◌%◌, ◌^◌, true, length, slice_get, is_some, Some}
use Rattle.std.specs.List.{All, AllPairs, AllByRecursion}
use Rattle.whips_lists.specs.Lists.{front}
use Rattle.whips_states.specs.Concerns.{concerns}
use Rattle.whips_view.specs.ViewDefs.{View, keyed, row_columns}
use Rattle.whips_view.specs.Widths.{widths_of}
use Rattle.whips_actions.specs.declared.action.ActionList.{ActionList}
use Rattle.whips_actions.specs.Lists.{AreActionsOf}
use Rattle.whips_setup.specs.Setups.{SetupData}
use Rattle.whips_managers.specs.Messages.{HaveWidths}
use Rattle.whips_merge.specs.declared.lists.Transaction.{Transaction}
use Rattle.whips_merge.specs.Merging.{MergeState}
use Rattle.whips_query.specs.declared.asks.Ask.{Ask}
use Rattle.whips_store.specs.Stores.{view_in}
use Rattle.whips_store.specs.Calls.{AreNet}
use Rattle.whips_source.specs.Asks.{IsAskTo}
use Rattle.whips_strobe.specs.Strobes.{ManagerData, FitsManager}
use Rattle.whips_contents.specs.Contents.{Announcement, ManagerInput, numbered_transaction, reply_to_ask, LoadedSource, LoadedManager, LoadedPipeline}
use Rattle.whips_contents.specs.Events.{oldest_ask_to, oldest_message, oldest_list, changes_of_transaction}

-- A manager can take the message: a transaction concerns its view, is a later one and has the widths; a reply fits. Strobe 1996.
abbrev pub FitsInput : ManagerData → ManagerInput → Type 0
FitsInput m (numbered_transaction n t) = (concerns m.view.parts t ≡ true) × (m.state.last < n.number) × HaveWidths (keyed m.view) (widths_of m.view) t
FitsInput m (reply_to_ask r) = FitsManager m r

-- The merge can take the announced transaction: it is later than those taken, and concerns some of the views, none twice. The painting algorithm 1997.
pub record FitsRel (m : MergeState) (a : Announcement) : Type 0 where
  pub above : m.merge.table.last_announced < a.transaction.number
  pub some : 0 < length a.concerned
  pub there : All (λ x. x < length m.lists) a.concerned
  pub once : AllPairs (λ x y. x ≢ y) a.concerned

-- The list's actions are those of its view: its rows have the view's columns, and its keys are of parts of it.
abbrev pub IsListOf : List View → ActionList → Type 0
IsListOf views list = (view : View) → slice_get views list.view ≡ Some view → AreActionsOf view list.actions

-- The writer can begin the transaction: the store has the views with their columns, the lists can be applied to their rows, the changes that they make are net, and the phase is small. 2VNL 1997.
pub record FitsBegin (s : SetupData) (l : LoadedPipeline) (t : Transaction) : Type 0 where
  pub views : length l.store.views ≡ length s.views
  pub columns : (x : ℕ) (view : View) → slice_get s.views x ≡ Some view → (view_in l.store x).columns ≡ row_columns view
  pub lists : AllByRecursion (IsListOf s.views) t.lists
  pub phase : l.store.phase < 2 ^ 62
  pub net : AreNet l.store.views (changes_of_transaction s l.store t)

-- What stands first in each queue may be handed to the stage that takes it.
pub record CallsFit (s : SetupData) (l : LoadedPipeline) : Type 0 where
  -- answer
  pub asks : (y x : ℕ) (z : LoadedSource) (ask : Ask) → slice_get l.sources y ≡ Some z → oldest_ask_to x z ≡ Some ask → IsAskTo z.site.views z.site.source ask
  -- integrate
  pub messages : (y : ℕ) → is_some (oldest_message l y) ≡ true → y < s.sources
  -- manage
  pub inputs : (x : ℕ) (m : LoadedManager) (i : ManagerInput) → slice_get l.managers x ≡ Some m → front m.messages ≡ Some i → FitsInput m.manager i
  -- rel
  pub announcements : (a : Announcement) → front l.announcements ≡ Some a → FitsRel l.merge a
  -- act
  pub lists : (x : ℕ) (list : ActionList) → oldest_list l x ≡ Some list → list.view < length l.merge.lists
  -- begin
  pub begins : (t : Transaction) → front l.merge.transactions ≡ Some t → l.store.phase % 2 ≡ 0 → FitsBegin s l t
