-- What keeps the invariant of a manager, and what its list does once no query is open.
use Rattle.std.specs.Prelude.{◌≡◌, ◌≢◌, ℕ, ◌<◌, ◌≤◌, true, false, List, [], ◌∷◌, ◌++◌, length, map, slice_set}
use Rattle.whips_model.specs.Tuples.{Codes, Columns, at_columns, without_key, IsKeyed}
use Rattle.whips_model.specs.Views.{rows_of}
use Rattle.whips_lists.specs.Members.{Has}
use Rattle.whips_choices.specs.KeyedViews.{KeyedView, IsKeyedView, AreTables, part_key, rows_of_part}
use Rattle.whips_choices.specs.Edits.{put_rows}
use Rattle.whips_choices.specs.Partials.{Partial, extended}
use Rattle.whips_states.specs.Concerns.{meets_part}
use Rattle.whips_steps.specs.Steps.{asked_sources, step_parts}
use Rattle.whips_actions.specs.Acts.{applied}
use Rattle.whips_managers.specs.Managers.{Query, ManagerState, name_of, new_manager, with_deletion, with_query, with_put, with_step, with_answer}
use Rattle.whips_managers.specs.Invariants.{Keeps}

-- No tuple of the part has t's key.
abbrev pub IsNewAt : KeyedView → List (List Codes) → ℕ → Codes → Type 0
IsNewAt v tables part t = (u : Codes) → Has u (rows_of_part tables part) → at_columns (part_key v part) t ≢ at_columns (part_key v part) u

-- The tables after tuples came to a part.
abbrev pub with_tuples : KeyedView → List (List Codes) → ℕ → List Codes → List (List Codes)
with_tuples v tables part ts = slice_set tables part (put_rows (part_key v part) ts (rows_of_part tables part))

-- The tables after a key went from a part.
abbrev pub without_tuple : KeyedView → List (List Codes) → ℕ → Codes → List (List Codes)
without_tuple v tables part k = slice_set tables part (without_key (part_key v part) k (rows_of_part tables part))

-- The tuple meets the view's conditions on its part and the equalities within it.
abbrev pub Meets : KeyedView → ℕ → Codes → Type 0
Meets v part t = meets_part v.base part t ≡ true

abbrev pub Misses : KeyedView → ℕ → Codes → Type 0
Misses v part t = meets_part v.base part t ≡ false

-- The answer to the query's step on these tables.
abbrev pub answer_to : KeyedView → List (List Codes) → Query → List Partial
answer_to v tables q = extended v.base tables (step_parts v q.origin q.step) q.partials

-- The insertion of a tuple that doesn't meet the view.
abbrev pub UnconcernedInsertion : Type 0
UnconcernedInsertion = (v : KeyedView) (tables : List (List Codes)) (rows : List Codes) (m : ManagerState) (part : ℕ) (t : Codes) → Keeps v tables rows m → part < length v.keys
    → IsNewAt v tables part t → Misses v part t → Keeps v (with_tuples v tables part (t ∷ [])) rows m

-- The deletion of a tuple that doesn't meet the view.
abbrev pub UnconcernedDeletion : Type 0
UnconcernedDeletion = (v : KeyedView) (tables : List (List Codes)) (rows : List Codes) (m : ManagerState) (part : ℕ) (t : Codes) → Keeps v tables rows m → part < length v.keys
    → Has t (rows_of_part tables part) → Misses v part t → Keeps v (without_tuple v tables part (at_columns (part_key v part) t)) rows m

-- The tables change in tuples alone that don't meet the view.
abbrev pub UnconcernedChange : Type 0
UnconcernedChange = (v : KeyedView) (tables others : List (List Codes)) (rows : List Codes) (m : ManagerState) → Keeps v tables rows m → AreTables v others
    → ((part : ℕ) (t : Codes) → part < length v.keys → Meets v part t → Has t (rows_of_part tables part) → Has t (rows_of_part others part))
    → ((part : ℕ) (t : Codes) → part < length v.keys → Meets v part t → Has t (rows_of_part others part) → Has t (rows_of_part tables part))
    → Keeps v others rows m

-- A deletion: whether a tuple has the key or not, the manager notes it.
abbrev pub Deletion : Type 0
Deletion = (v : KeyedView) (tables : List (List Codes)) (rows : List Codes) (m : ManagerState) (part : ℕ) (k : Codes) → Keeps v tables rows m → part < length v.keys
    → Keeps v (without_tuple v tables part k) rows (with_deletion m (part, k))

-- What insertions at one part must meet: they are in the order of their keys, each key is new, each tuple meets the view, their number is no earlier than the last one taken, and no query of that number began at the part.
pub record AreInsertions (v : KeyedView) (tables : List (List Codes)) (m : ManagerState) (number part : ℕ) (ts : List Codes) : Type 0 where
  pub below : part < length v.keys
  pub rising : IsKeyed (part_key v part) ts
  pub new : (t : Codes) → Has t ts → IsNewAt v tables part t
  pub meets : (t : Codes) → Has t ts → Meets v part t
  pub later : m.last ≤ number
  pub unnamed : Has (number, part) (map name_of m.queries) → ⊥

-- Insertions at one part that begin one query.
abbrev pub Insertions : Type 0
Insertions = (v : KeyedView) (tables : List (List Codes)) (rows : List Codes) (m : ManagerState) (number part : ℕ) (ts : List Codes) → Keeps v tables rows m
    → AreInsertions v tables m number part ts → 1 ≤ length (asked_sources v part) → Keeps v (with_tuples v tables part ts) rows (with_query v m number part ts)

-- Insertions at one part whose rows are put at once, since there is nothing to ask.
abbrev pub PutInsertions : Type 0
PutInsertions = (v : KeyedView) (columns : Columns) (tables : List (List Codes)) (rows : List Codes) (m : ManagerState) (number part : ℕ) (ts : List Codes) → Keeps v tables rows m
    → AreInsertions v tables m number part ts → asked_sources v part ≡ [] → Keeps v (with_tuples v tables part ts) rows (with_put v columns m number part ts)

-- An answer before the last.
abbrev pub EarlierAnswer : Type 0
EarlierAnswer = (v : KeyedView) (tables : List (List Codes)) (rows : List Codes) (m : ManagerState) (before after : List Query) (q : Query) → Keeps v tables rows m
    → m.queries ≡ before ++ q ∷ after → q.step < length (asked_sources v q.origin) → Keeps v tables rows (with_step m before q (answer_to v tables q) after)

-- The last answer.
abbrev pub LastAnswer : Type 0
LastAnswer = (v : KeyedView) (columns : Columns) (tables : List (List Codes)) (rows : List Codes) (m : ManagerState) (before after : List Query) (q : Query) → Keeps v tables rows m
    → m.queries ≡ before ++ q ∷ after → q.step ≡ length (asked_sources v q.origin) → Keeps v tables rows (with_answer v columns m before q (answer_to v tables q) after)

-- Where no query is open, the action list takes the rows to the view's value.
abbrev pub ListMakesValue : Type 0
ListMakesValue = (v : KeyedView) (tables : List (List Codes)) (rows : List Codes) (m : ManagerState) → Keeps v tables rows m → IsKeyed v.columns rows
    → m.queries ≡ [] → applied v m.actions rows ≡ rows_of v.base tables

-- A manager that has taken nothing has its invariant with the view's value, whatever its last number.
abbrev pub NewManager : Type 0
NewManager = (v : KeyedView) (tables : List (List Codes)) (number : ℕ) → IsKeyedView v → AreTables v tables → Keeps v tables (rows_of v.base tables) (new_manager number)

-- A later number does no harm.
abbrev pub LaterNumber : Type 0
LaterNumber = (v : KeyedView) (tables : List (List Codes)) (rows : List Codes) (m : ManagerState) (number : ℕ) → Keeps v tables rows m
    → m.last ≤ number → Keeps v tables rows (record m { last = number })
