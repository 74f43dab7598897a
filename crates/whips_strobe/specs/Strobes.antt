-- The manager of a view as a value, and what its type keeps.
use Rattle.std.specs.Prelude.{◌≡◌, ℕ, ◌≤◌, Bool, List}
use Rattle.std.specs.List.{AllByRecursion}
use Rattle.whips_states.specs.States.{Updates}
use Rattle.whips_view.specs.ViewDefs.{View, keyed, row_columns}
use Rattle.whips_actions.specs.Lists.{AreActionsOf}
use Rattle.whips_managers.specs.Managers.{ManagerState, with_transaction, with_reply}
use Rattle.whips_view.specs.Widths.{widths_of}
use Rattle.whips_managers.specs.Messages.{new_asks, asks_after, AllCanAsk, Fits}
use Rattle.whips_query.specs.declared.asks.Ask.{Ask}
use Rattle.whips_query.specs.declared.asks.Reply.{Reply}
use Rattle.whips_strobe.specs.Outs.{all_sent_by}

-- A manager: the number of its view, the view, whether it is stopped for want of memory, and its state.
pub record ManagerData : Type 0 where
  pub number : ℕ
  pub view : View
  pub stopped : Bool
  pub state : ManagerState

-- ---- what a message makes of it, before its list leaves

-- The state after a transaction with this number.
abbrev pub after_transaction : ManagerData → ℕ → Updates → ManagerState
after_transaction m number t = with_transaction (keyed m.view) (row_columns m.view) m.state number t

-- The state after a reply.
abbrev pub after_reply : ManagerData → Reply → ManagerState
after_reply m r = with_reply (keyed m.view) (row_columns m.view) m.state r.update r.origin r.partials

-- What is asked where this is the state after a transaction.
abbrev pub asks_begun : ManagerData → ManagerState → List (ℕ × Ask)
asks_begun m after = all_sent_by m.number (new_asks (keyed m.view) m.state after)

-- What is asked after a reply.
abbrev pub asks_on : ManagerData → Reply → List (ℕ × Ask)
asks_on m r = all_sent_by m.number (asks_after (keyed m.view) m.state.queries r.update r.origin r.partials)

-- ---- what is kept

-- What the type of managers keeps: the actions are those of the view, and so are the open queries, each of which can be asked, and none is of a later transaction than the last one taken.
pub record IsStateOf (view : View) (m : ManagerState) : Type 0 where
  pub actions : AreActionsOf view m.actions
  pub known : AllByRecursion (λ q. q.transaction ≤ m.last) m.queries
  pub queries : AllCanAsk (keyed view) (widths_of view) m.queries

-- The reply fits the manager: it has the manager's view, and fits one of its open queries.
pub record FitsManager (m : ManagerData) (r : Reply) : Type 0 where
  pub view : r.view ≡ m.number
  pub query : Fits (keyed m.view) (widths_of m.view) m.state r.update r.origin r.step r.partials
