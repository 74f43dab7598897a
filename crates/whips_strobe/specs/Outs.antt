-- What a manager hands out.
use Rattle.std.specs.Prelude.{◌≡◌, ℕ, List, map, Option}
use Rattle.std.specs.Option.{option_map}
use Rattle.whips_steps.specs.Steps.{source_of_step}
use Rattle.whips_view.specs.ViewDefs.{View, keyed}
use Rattle.whips_query.specs.declared.asks.Ask.{Ask}
use Rattle.whips_query.specs.Asks.{IsAskOf}
use Rattle.whips_actions.specs.declared.action.Action.{Action}
use Rattle.whips_actions.specs.declared.action.ActionList.{ActionList}
use Rattle.whips_managers.specs.Managers.{ManagerState, list_of}
use Rattle.whips_managers.specs.Messages.{AskData}

-- The ask as it is sent by the manager of this view, beside the source that is asked.
abbrev pub sent_by : ℕ → AskData → ℕ × Ask
sent_by view a = (a.source, record { view = view; update = a.transaction; origin = a.origin; step = a.step; partials = a.partials })

abbrev pub all_sent_by : ℕ → List AskData → List (ℕ × Ask)
all_sent_by view asks = map (sent_by view) asks

-- The list of the manager of this view, with the last number taken, where no query is open.
abbrev pub list_by : ℕ → ManagerState → Option ActionList
list_by view m = option_map (λ (actions : List Action). record { view = view; upto = m.last; actions = actions }) (list_of m)

-- The ask is one of this view, and the source beside it is the one that its step asks.
pub record IsSentAsk (view : View) (sent : ℕ × Ask) : Type 0 where
  pub ask : IsAskOf view sent.1
  pub source : sent.0 ≡ source_of_step (keyed view) sent.1.origin sent.1.step
