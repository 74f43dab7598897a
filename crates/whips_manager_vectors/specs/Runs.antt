-- What a manager hands out, told one message after another.
use Rattle.std.specs.Prelude.{ℕ, List, [], ◌∷◌, Option, Some, None}
use Rattle.whips_model.specs.Tuples.{Codes, Columns}
use Rattle.whips_choices.specs.KeyedViews.{KeyedView}
use Rattle.whips_choices.specs.Partials.{Partial}
use Rattle.whips_states.specs.States.{Updates}
use Rattle.whips_actions.specs.declared.action.Action.{Action}
use Rattle.whips_actions.specs.Acts.{applied}
use Rattle.whips_managers.specs.Managers.{ManagerState, with_transaction, with_reply, list_of, without_list}

-- A transaction with its number, or a reply to the query with this transaction and origin.
pub data Message : Type 0 where
  transaction : ℕ → Updates → Message
  reply : ℕ → ℕ → List Partial → Message

-- The columns of the rows, on which nothing here depends.
abbrev pub columns_of : KeyedView → Columns
columns_of v = record { kinds = []; key = v.columns }

-- The manager after a message, before its list leaves.
abbrev pub told : KeyedView → ManagerState → Message → ManagerState
told v m (transaction number t) = with_transaction v (columns_of v) m number t
told v m (reply number origin partials) = with_reply v (columns_of v) m number origin partials

-- The list, where one leaves, as its number and the rows after it, and then what follows.
abbrev pub handed : KeyedView → ManagerState → List Codes → Option (List Action) → (List Codes → List (ℕ × List Codes)) → List (ℕ × List Codes)
handed v m rows None rest = rest rows
handed v m rows (Some actions) rest = (m.last, applied v actions rows) ∷ rest (applied v actions rows)

-- The lists that leave while a manager is told these messages, each as its number and the view's rows after it.
abbrev pub lists_from : KeyedView → ManagerState → List Codes → List Message → List (ℕ × List Codes)
lists_from v m rows [] = []
lists_from v m rows (x ∷ xs) = handed v (told v m x) rows (list_of (told v m x)) (λ after. lists_from v (without_list (told v m x)) after xs)

-- The manager after these messages, whose lists have left.
abbrev pub state_after : KeyedView → ManagerState → List Message → ManagerState
state_after v m [] = m
state_after v m (x ∷ xs) = state_after v (without_list (told v m x)) xs
