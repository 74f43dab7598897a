-- A manager of one view as data, and what it does with a transaction and with a reply.
use Rattle.std.specs.Prelude.{ℕ, ◌+◌, ◌==◌, ◌&&◌, nat_lt, Bool, cond, List, [], ◌∷◌, ◌++◌, length, map, fold, Option, Some, None}
use Rattle.whips_model.specs.Tuples.{Codes, Columns}
use Rattle.whips_choices.specs.KeyedViews.{KeyedView}
use Rattle.whips_choices.specs.Partials.{Partial, seed}
use Rattle.whips_states.specs.States.{Updates}
use Rattle.whips_states.specs.Net.{given_at, taken}
use Rattle.whips_steps.specs.Steps.{asked_sources}
use Rattle.whips_lists.specs.Lists.{places_from}
use Rattle.whips_steps.specs.Answers.{projected, unstruck}
use Rattle.whips_actions.specs.declared.action.Action.{Action}
use Rattle.whips_actions.specs.declared.action.Action.TheVariants.{KeyDelete, Put}

-- A query that isn't answered in full: the number of its transaction and the part where it began, which name it; the step that is asked, counted from 1; the inserted tuples that it began with; what was found before this step; and the keys, each with its part, that were deleted since it began.
pub record Query : Type 0 where
  pub transaction : ℕ
  pub origin : ℕ
  pub step : ℕ
  pub seeds : List Codes
  pub partials : List Partial
  pub pending : List (ℕ × Codes)

-- A manager: the number of the last transaction that it took, its action list, and its open queries in the order in which they began.
pub record ManagerState : Type 0 where
  pub last : ℕ
  pub actions : List Action
  pub queries : List Query

-- The name of a query: its transaction and its origin.
abbrev pub name_of : Query → ℕ × ℕ
name_of q = (q.transaction, q.origin)

-- A manager that has taken nothing since the transaction with this number.
abbrev pub new_manager : ℕ → ManagerState
new_manager number = record { last = number; actions = []; queries = [] }

-- ---- a deletion

-- The query with a key of a part among its pending deletions.
abbrev pub with_pending : ℕ → Codes → Query → Query
with_pending part key q = record q { pending = q.pending ++ (part, key) ∷ [] }

-- The manager after the deletion of a key of a part: the key goes to the pending deletions of each open query, and a key delete into the action list.
abbrev pub with_deletion : ManagerState → ℕ × Codes → ManagerState
with_deletion m e = record m { actions = m.actions ++ KeyDelete e.0 e.1 ∷ []; queries = map (with_pending e.0 e.1) m.queries }

-- The manager after the deletion of these keys, each with its part.
abbrev pub with_deletions : ManagerState → List (ℕ × Codes) → ManagerState
with_deletions m keys = fold with_deletion m keys

-- ---- an insertion

-- The query that asks for the rows of these tuples of a part, at its first step.
abbrev pub new_query : KeyedView → ℕ → ℕ → List Codes → Query
new_query v number part tuples = record { transaction = number; origin = part; step = 1; seeds = tuples; partials = map (seed (length v.keys) part) tuples; pending = [] }

-- The manager after an insertion that becomes a query.
abbrev pub with_query : KeyedView → ManagerState → ℕ → ℕ → List Codes → ManagerState
with_query v m number part tuples = record m { last = number; queries = m.queries ++ new_query v number part tuples ∷ [] }

-- The action that puts the rows of whole choices.
abbrev pub put_of : KeyedView → Columns → List Partial → Action
put_of v columns partials = Put (record { columns = columns; rows = projected v partials })

-- The manager after an insertion at a part where there is no other source to ask: its rows are put at once.
abbrev pub with_put : KeyedView → Columns → ManagerState → ℕ → ℕ → List Codes → ManagerState
with_put v columns m number part tuples = record m { last = number; actions = m.actions ++ put_of v columns (map (seed (length v.keys) part) tuples) ∷ [] }

-- The first where there is nothing to ask, else the second.
abbrev pub put_or_asked : List ℕ → ManagerState → ManagerState → ManagerState
put_or_asked [] put asked = put
put_or_asked (s ∷ sources) put asked = asked

-- The manager after the insertion of these tuples at one part: together they begin one query, or are put where the part has no step.
abbrev pub with_given : KeyedView → Columns → ManagerState → ℕ → ℕ → List Codes → ManagerState
with_given v columns m number part [] = m
with_given v columns m number part (t ∷ tuples) = put_or_asked (asked_sources v part) (with_put v columns m number part (t ∷ tuples)) (with_query v m number part (t ∷ tuples))

-- The manager after the insertion of given tuples at each of these parts, in order.
abbrev pub with_all_given : KeyedView → Columns → ManagerState → ℕ → (ℕ → List Codes) → List ℕ → ManagerState
with_all_given v columns m number given [] = m
with_all_given v columns m number given (part ∷ parts) = with_all_given v columns (with_given v columns m number part (given part)) number given parts

-- ---- a transaction

-- The manager after a transaction with this number: first the deletion of each key that the transaction takes from the view, then at each part, in view order, the insertion of the tuples that it gives the view there.
abbrev pub with_transaction : KeyedView → Columns → ManagerState → ℕ → Updates → ManagerState
with_transaction v columns m number t = with_all_given v columns (with_deletions (record m { last = number }) (taken v t)) number (given_at v t) (places_from 0 (length v.keys))

-- ---- a reply

-- The query at its next step, with what was found up to there.
abbrev pub moved_on : Query → List Partial → Query
moved_on q partials = record q { step = q.step + 1; partials = partials }

-- The manager after the reply to the last step of a query that stands between these: the choices that have a pending key are struck, the rows of the others are put, and the query is closed.
abbrev pub with_answer : KeyedView → Columns → ManagerState → List Query → Query → List Partial → List Query → ManagerState
with_answer v columns m before q partials after = record m { actions = m.actions ++ put_of v columns (unstruck v q.pending partials) ∷ []; queries = before ++ after }

-- The manager after the reply to an earlier step of a query that stands between these.
abbrev pub with_step : ManagerState → List Query → Query → List Partial → List Query → ManagerState
with_step m before q partials after = record m { queries = before ++ moved_on q partials ∷ after }

-- Whether the query has a further step.
abbrev pub has_next : KeyedView → Query → Bool
has_next v q = nat_lt q.step (length (asked_sources v q.origin))

-- The manager after the reply to a query that stands between these.
abbrev pub with_reply_to : KeyedView → Columns → ManagerState → List Query → Query → List Partial → List Query → ManagerState
with_reply_to v columns m before q partials after = cond (has_next v q) (with_step m before q partials after) (with_answer v columns m before q partials after)

-- Whether the query has this name.
abbrev pub is_named : ℕ → ℕ → Query → Bool
is_named transaction origin q = (q.transaction == transaction) && (q.origin == origin)

-- The manager after the reply to the first query with this name behind those before.
abbrev pub with_reply_behind : KeyedView → Columns → ManagerState → List Query → List Query → ℕ → ℕ → List Partial → ManagerState
with_reply_behind v columns m before [] transaction origin partials = m
with_reply_behind v columns m before (q ∷ after) transaction origin partials = cond (is_named transaction origin q) (with_reply_to v columns m before q partials after) (with_reply_behind v columns m (before ++ q ∷ []) after transaction origin partials)

-- The manager after a reply: its query is asked at its next step, or after the last step it is closed and its rows are put.
abbrev pub with_reply : KeyedView → Columns → ManagerState → ℕ → ℕ → List Partial → ManagerState
with_reply v columns m transaction origin partials = with_reply_behind v columns m [] m.queries transaction origin partials

-- ---- the list

-- These actions where there is no query, else none.
abbrev pub list_where : List Query → List Action → Option (List Action)
list_where [] actions = Some actions
list_where (q ∷ queries) actions = None

-- No action where there is no query, else these.
abbrev pub kept_where : List Query → List Action → List Action
kept_where [] actions = []
kept_where (q ∷ queries) actions = actions

-- The whole action list where no query is open, else none.
abbrev pub list_of : ManagerState → Option (List Action)
list_of m = list_where m.queries m.actions

-- The manager once its list has left: without actions where no query is open, else as it is.
abbrev pub without_list : ManagerState → ManagerState
without_list m = record m { actions = kept_where m.queries m.actions }
