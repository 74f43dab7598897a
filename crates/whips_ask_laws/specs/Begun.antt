-- What a manager is after a transaction, field by field: the queries that begin, the rows that are put at once, and what is asked.
use Rattle.std.specs.Prelude.{◌≡◌, ℕ, List, [], ◌∷◌, ◌++◌, length, map}
use Rattle.std.specs.List.{flat_map}
use Rattle.whips_model.specs.Tuples.{Codes, Columns}
use Rattle.whips_choices.specs.KeyedViews.{KeyedView}
use Rattle.whips_choices.specs.Partials.{seed}
use Rattle.whips_states.specs.States.{Updates}
use Rattle.whips_states.specs.Net.{given_at, taken}
use Rattle.whips_steps.specs.Steps.{asked_sources}
use Rattle.whips_lists.specs.Lists.{places_from}
use Rattle.whips_actions.specs.declared.action.Action.{Action}
use Rattle.whips_actions.specs.declared.action.Action.TheVariants.{KeyDelete}
use Rattle.whips_managers.specs.Managers.{Query, ManagerState, new_query, put_of, with_transaction}
use Rattle.whips_managers.specs.Messages.{ask_of, new_asks}

-- The query that these tuples of a part begin: none where there is no tuple, or no source to ask.
abbrev pub begun_at : KeyedView → ℕ → ℕ → List ℕ → List Codes → List Query
begun_at v number part sources [] = []
begun_at v number part [] (t ∷ ts) = []
begun_at v number part (s ∷ sources) (t ∷ ts) = new_query v number part (t ∷ ts) ∷ []

-- The queries that a transaction with this number begins, in the order of their parts.
abbrev pub begun : KeyedView → ℕ → Updates → List ℕ → List Query
begun v number t parts = flat_map (λ part. begun_at v number part (asked_sources v part) (given_at v t part)) parts

-- The action that puts the rows of these tuples of a part at once: none where there is no tuple, or a source to ask.
abbrev pub put_at : KeyedView → Columns → ℕ → List ℕ → List Codes → List Action
put_at v columns part sources [] = []
put_at v columns part [] (t ∷ ts) = put_of v columns (map (seed (length v.keys) part) (t ∷ ts)) ∷ []
put_at v columns part (s ∷ sources) (t ∷ ts) = []

-- The actions that put rows at once, in the order of their parts.
abbrev pub puts_of : KeyedView → Columns → Updates → List ℕ → List Action
puts_of v columns t parts = flat_map (λ part. put_at v columns part (asked_sources v part) (given_at v t part)) parts

-- The query with all these keys among its pending deletions.
abbrev pub with_all_pending : List (ℕ × Codes) → Query → Query
with_all_pending keys q = record q { pending = q.pending ++ keys }

-- After a transaction the last number is its own; the action list has a key delete for each key that the transaction takes, and then what is put at once; each earlier query has these keys among its pending deletions; behind them stand the queries that begin; and each of these is asked at its first step.
pub record IsAfter (v : KeyedView) (columns : Columns) (m : ManagerState) (number : ℕ) (t : Updates) (after : ManagerState) : Type 0 where
  pub last : after.last ≡ number
  pub actions : after.actions ≡ m.actions ++ map (λ e. KeyDelete e.0 e.1) (taken v t) ++ puts_of v columns t (places_from 0 (length v.keys))
  pub queries : after.queries ≡ map (with_all_pending (taken v t)) m.queries ++ begun v number t (places_from 0 (length v.keys))
  pub asks : new_asks v m after ≡ map (ask_of v) (begun v number t (places_from 0 (length v.keys)))

abbrev pub AfterTransaction : Type 0
AfterTransaction = (v : KeyedView) (columns : Columns) (m : ManagerState) (number : ℕ) (t : Updates) → IsAfter v columns m number t (with_transaction v columns m number t)
