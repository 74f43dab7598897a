-- What a manager asks, which open queries can be asked, which transactions have tuples of their relations' widths, and which replies fit.
use Rattle.std.specs.Prelude.{◌≡◌, ℕ, ◌+◌, ◌<◌, ◌≤◌, ◌==◌, ◌&&◌, Bool, true, cond, List, [], ◌∷◌, length, map, drop, slice_index}
use Rattle.std.specs.List.{list_any, AllByRecursion}
use Rattle.whips_choices.specs.KeyedViews.{KeyedView}
use Rattle.whips_choices.specs.Partials.{Partial}
use Rattle.whips_rel.specs.declared.update.Update.{Update}
use Rattle.whips_rel.specs.Updates.{relation_of, tuple_of}
use Rattle.whips_states.specs.States.{Updates}
use Rattle.whips_states.specs.Net.{relation_at}
use Rattle.whips_steps.specs.Steps.{asked_sources, source_of_step}
use Rattle.whips_steps.specs.Answers.{AllDifferInKey}
use Rattle.whips_steps.specs.Filled.{IsFilledBefore}
use Rattle.whips_managers.specs.Managers.{Query, ManagerState, is_named, has_next, moved_on}

-- An ask: the source that is asked, the query by its transaction and origin, its step, and what was found before this step.
pub record AskData : Type 0 where
  pub source : ℕ
  pub transaction : ℕ
  pub origin : ℕ
  pub step : ℕ
  pub partials : List Partial

-- What an open query asks.
abbrev pub ask_of : KeyedView → Query → AskData
ask_of v q = record { source = source_of_step v q.origin q.step; transaction = q.transaction; origin = q.origin; step = q.step; partials = q.partials }

-- What a manager asks that was the first before a transaction and is the second after it: each new query, at its first step.
abbrev pub new_asks : KeyedView → ManagerState → ManagerState → List AskData
new_asks v before after = map (ask_of v) (drop (length before.queries) after.queries)

-- What is asked once a query has had a reply: its next step, if there is one.
abbrev pub next_asks : KeyedView → Query → List Partial → List AskData
next_asks v q partials = cond (has_next v q) (ask_of v (moved_on q partials) ∷ []) []

-- What is asked once the first query with this name has had a reply.
abbrev pub asks_after : KeyedView → List Query → ℕ → ℕ → List Partial → List AskData
asks_after v [] transaction origin partials = []
asks_after v (q ∷ queries) transaction origin partials = cond (is_named transaction origin q) (next_asks v q partials) (asks_after v queries transaction origin partials)

-- Whether the query with this name is open at this step.
abbrev pub is_open : ManagerState → ℕ → ℕ → ℕ → Bool
is_open m transaction origin step = list_any (λ q. is_named transaction origin q && (q.step == step)) m.queries

-- The query can be asked: it began at a part of the view and is at one of the steps of that part; each of its partial choices is filled exactly at the origin and at the parts of the steps before, by tuples of their relations' widths; and any two of them differ in the key of a filled part.
pub record CanAsk (v : KeyedView) (widths : List ℕ) (q : Query) : Type 0 where
  pub origin : q.origin < length v.keys
  pub low : 1 ≤ q.step
  pub high : q.step ≤ length (asked_sources v q.origin)
  pub filled : AllByRecursion (IsFilledBefore v widths q.origin q.step) q.partials
  pub differ : AllDifferInKey v.keys q.partials

-- Each of these queries can be asked.
abbrev pub AllCanAsk : KeyedView → List ℕ → List Query → Type 0
AllCanAsk v widths queries = AllByRecursion (CanAsk v widths) queries

-- An update of one of the view's relations has a tuple of its width.
abbrev pub HasWidth : KeyedView → List ℕ → Update → Type 0
HasWidth v widths u = (part : ℕ) → part < length v.keys → relation_of u ≡ relation_at v part → length (tuple_of u) ≡ slice_index widths part

-- Each update of one of the view's relations has a tuple of its width.
abbrev pub HaveWidths : KeyedView → List ℕ → Updates → Type 0
HaveWidths v widths t = AllByRecursion (HasWidth v widths) t

-- The reply fits: a query with its name is open at its step; each of its partial choices is filled exactly at the origin and at the parts of the steps up to that one, by tuples of their relations' widths; and any two of them differ in the key of a filled part.
pub record Fits (v : KeyedView) (widths : List ℕ) (m : ManagerState) (transaction origin step : ℕ) (partials : List Partial) : Type 0 where
  pub open_query : is_open m transaction origin step ≡ true
  pub filled : AllByRecursion (IsFilledBefore v widths origin (step + 1)) partials
  pub differ : AllDifferInKey v.keys partials
