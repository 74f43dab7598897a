-- The invariant of a manager: how it stands to the relations now, and to the rows that its action list is for.
use Rattle.std.specs.Prelude.{◌≡◌, ◌⊎◌, ℕ, ◌<◌, ◌≤◌, true, List, [], length, map, Some, None, is_some, slice_index_or}
use Rattle.whips_model.specs.Tuples.{Codes, at_columns}
use Rattle.whips_model.specs.Views.{Choice, meets, out_row, rows_of}
use Rattle.whips_lists.specs.Members.{Has, AreDistinct}
use Rattle.whips_choices.specs.KeyedViews.{KeyedView, IsKeyedView, AreTables, IsChoiceOf}
use Rattle.whips_choices.specs.Partials.{Partial, meets_on, IsPartOf}
use Rattle.whips_steps.specs.Steps.{asked_sources, is_filled}
use Rattle.whips_steps.specs.Answers.{AllDifferInKey}
use Rattle.whips_actions.specs.Acts.{applied}
use Rattle.whips_managers.specs.Managers.{Query, ManagerState, name_of}

-- The query will find the choice's row: the choice's tuple at the origin is one of the seeds, none of its keys is pending, and what it has at the parts that are answered is one of the query's partial choices.
pub record IsFoundBy (v : KeyedView) (c : Choice) (q : Query) : Type 0 where
  pub seed : Has (slice_index_or c q.origin []) q.seeds
  pub free : (part : ℕ) → part < length v.keys → Has (part, at_columns (slice_index_or v.keys part []) (slice_index_or c part [])) q.pending → ⊥
  pub partial : Partial
  pub there : Has partial q.partials
  pub part_of : IsPartOf partial c

-- One of the queries will find the choice's row.
pub record IsAwaited (v : KeyedView) (queries : List Query) (c : Choice) : Type 0 where
  pub query : Query
  pub there : Has query queries
  pub found : IsFoundBy v c query

-- A partial choice of a query: it has one of the seeds at the origin, is filled exactly there and at the parts of the steps answered so far, and meets every condition and equality that is decidable on it.
pub record IsPartialOf (v : KeyedView) (q : Query) (p : Partial) : Type 0 where
  pub width : length p ≡ length v.keys
  pub seed : Codes
  pub seeded : Has seed q.seeds
  pub at_origin : slice_index_or p q.origin None ≡ Some seed
  pub filled : (part : ℕ) → part < length v.keys → is_some (slice_index_or p part None) ≡ is_filled v q.origin q.step part
  pub meets : meets_on v.base p ≡ true

-- Each partial choice of the query is one of its seeds, extended by the steps answered so far, and any two of them differ in the key of a filled part.
pub record IsSoundQuery (v : KeyedView) (q : Query) : Type 0 where
  pub each : (p : Partial) → Has p q.partials → IsPartialOf v q p
  pub differ : AllDifferInKey v.keys q.partials

-- The open queries have distinct names, their transactions are no later than the last one taken, and each is at one of its origin's steps.
pub record AreNumbered (v : KeyedView) (m : ManagerState) : Type 0 where
  pub distinct : AreDistinct (map name_of m.queries)
  pub known : (q : Query) → Has q m.queries → q.transaction ≤ m.last
  pub steps : (q : Query) → Has q m.queries → (1 ≤ q.step) × (q.step ≤ length (asked_sources v q.origin))

-- The manager's invariant, over the tables of the view's relations now, and over the rows of the view when the manager's list was last empty. The idea is Strobe's; the five parts are own.
-- Each row that the list makes is in the view's value.
-- Each tuple of an open query's partial choices is in its table, or its key is pending there.
-- Each row of the value is made by the list, or one of the open queries will find it.
-- The open queries are numbered.
-- Their partial choices are sound.
pub record ManagerInvariant (v : KeyedView) (tables : List (List Codes)) (rows : List Codes) (m : ManagerState) : Type 0 where
  pub listed : (r : Codes) → Has r (applied v m.actions rows) → Has r (rows_of v.base tables)
  pub chosen : (q : Query) (p : Partial) (part : ℕ) (t : Codes) → Has q m.queries → Has p q.partials → slice_index_or p part None ≡ Some t
      → Has t (slice_index_or tables part []) ⊎ Has (part, at_columns (slice_index_or v.keys part []) t) q.pending
  pub covered : (c : Choice) → IsChoiceOf tables c → meets v.base c ≡ true → Has (out_row v.base c) (applied v m.actions rows) ⊎ IsAwaited v m.queries c
  pub numbered : AreNumbered v m
  pub sound : (q : Query) → Has q m.queries → IsSoundQuery v q

-- The manager keeps the view: the view and its tables are sound, and the manager has its invariant.
pub record Keeps (v : KeyedView) (tables : List (List Codes)) (rows : List Codes) (m : ManagerState) : Type 0 where
  pub view : IsKeyedView v
  pub good : AreTables v tables
  pub invariant : ManagerInvariant v tables rows m
