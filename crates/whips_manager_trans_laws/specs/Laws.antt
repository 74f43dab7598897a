-- What a manager's invariant is after a whole transaction and after a reply, and what its list does.
use Rattle.std.specs.Prelude.{◌≡◌, ℕ, ◌<◌, false, List, length, Some, None, slice_get}
use Rattle.whips_model.specs.Tuples.{Codes, Columns, IsKeyed}
use Rattle.whips_model.specs.Relation.{Table, value_of}
use Rattle.whips_lists.specs.Members.{Has}
use Rattle.whips_choices.specs.KeyedViews.{KeyedView, IsKeyedView, part_key}
use Rattle.whips_choices.specs.Partials.{Partial}
use Rattle.whips_states.specs.States.{Updates, applied, AreValid, AreSoundTables}
use Rattle.whips_states.specs.Concerns.{concerns}
use Rattle.whips_states.specs.Net.{relation_at}
use Rattle.whips_steps.specs.Steps.{step_parts}
use Rattle.whips_steps.specs.Answers.{tables_of, step_answer}
use Rattle.whips_view.specs.ViewDefs.{View, keyed, HasBases}
use Rattle.whips_actions.specs.declared.action.Action.{Action}
use Rattle.whips_actions.specs.Acts.{applied as made}
use Rattle.whips_managers.specs.Managers.{Query, ManagerState, new_manager, with_transaction, with_reply, list_of, without_list}
use Rattle.whips_managers.specs.Invariants.{Keeps}

-- The relation of the view's part is there, with the part's key columns.
pub record IsRelationAt (v : KeyedView) (db : List Table) (part : ℕ) : Type 0 where
  pub table : Table
  pub there : slice_get db (relation_at v part) ≡ Some table
  pub key : table.columns.key ≡ part_key v part

-- All relations by number, each with rows of its width in the order of their keys, have the relations of the view.
pub record AreRelationsOf (v : KeyedView) (db : List Table) : Type 0 where
  pub sound : AreSoundTables db
  pub parts : length v.base.relations ≡ length v.keys
  pub each : (part : ℕ) → part < length v.keys → IsRelationAt v db part

-- Relations with the columns that a view was made with are such.
abbrev pub BasesAreRelations : Type 0
BasesAreRelations = (view : View) (db : List Table) → AreSoundTables db → HasBases view db → AreRelationsOf (keyed view) db

-- After a valid transaction they are such again.
abbrev pub RelationsStay : Type 0
RelationsStay = (v : KeyedView) (db : List Table) (t : Updates) → AreRelationsOf v db → AreValid db t → AreRelationsOf v (applied db t)

-- A new manager keeps the view with the view's value on these relations, whatever the number of the last transaction.
abbrev pub NewManagerKeeps : Type 0
NewManagerKeeps = (v : KeyedView) (db : List Table) (number : ℕ) → IsKeyedView v → AreRelationsOf v db → Keeps v (tables_of v.base db) (value_of v.base db) (new_manager number)

-- A manager that takes a valid transaction with a later number keeps the view with the relations after it.
abbrev pub TransactionKeeps : Type 0
TransactionKeeps = (v : KeyedView) (columns : Columns) (db : List Table) (rows : List Codes) (m : ManagerState) (number : ℕ) (t : Updates) → AreRelationsOf v db → AreValid db t → m.last < number
    → Keeps v (tables_of v.base db) rows m → Keeps v (tables_of v.base (applied db t)) rows (with_transaction v columns m number t)

-- A manager that takes no note of a valid transaction that doesn't concern its view keeps the view with the relations after it.
abbrev pub UnconcernedTransaction : Type 0
UnconcernedTransaction = (v : KeyedView) (db : List Table) (rows : List Codes) (m : ManagerState) (t : Updates) → AreRelationsOf v db → AreValid db t → concerns v.base t ≡ false
    → Keeps v (tables_of v.base db) rows m → Keeps v (tables_of v.base (applied db t)) rows m

-- The reply is the answer to the step of the query that it names, on these relations.
pub record IsAnswered (v : KeyedView) (db : List Table) (m : ManagerState) (transaction origin : ℕ) (partials : List Partial) : Type 0 where
  pub query : Query
  pub there : Has query m.queries
  pub transaction_is : query.transaction ≡ transaction
  pub origin_is : query.origin ≡ origin
  pub answer : partials ≡ step_answer v.base db (step_parts v query.origin query.step) query.partials

-- A manager that takes the answer to a step of one of its queries keeps the view.
abbrev pub ReplyKeeps : Type 0
ReplyKeeps = (v : KeyedView) (columns : Columns) (db : List Table) (rows : List Codes) (m : ManagerState) (transaction origin : ℕ) (partials : List Partial) → IsAnswered v db m transaction origin partials
    → Keeps v (tables_of v.base db) rows m → Keeps v (tables_of v.base db) rows (with_reply v columns m transaction origin partials)

-- What a call leaves, where the view had these rows when the manager's list was last empty. Where no list leaves, the manager keeps the view with these rows. Where a list leaves, it takes these rows to the view's value, and the manager, then without actions, keeps the view with this value.
pub record HandsOut (v : KeyedView) (db : List Table) (rows : List Codes) (m : ManagerState) : Type 0 where
  pub none : list_of m ≡ None → Keeps v (tables_of v.base db) rows (without_list m)
  pub list : (actions : List Action) → list_of m ≡ Some actions → (made v actions rows ≡ value_of v.base db) × Keeps v (tables_of v.base db) (value_of v.base db) (without_list m)

-- A manager that keeps the view hands out so.
abbrev pub ListLeaves : Type 0
ListLeaves = (v : KeyedView) (db : List Table) (rows : List Codes) (m : ManagerState) → IsKeyed v.columns rows → Keeps v (tables_of v.base db) rows m → HandsOut v db rows m

-- After a valid transaction with a later number.
abbrev pub TransactionHandsOut : Type 0
TransactionHandsOut = (v : KeyedView) (columns : Columns) (db : List Table) (rows : List Codes) (m : ManagerState) (number : ℕ) (t : Updates) → AreRelationsOf v db → AreValid db t → m.last < number → IsKeyed v.columns rows
    → Keeps v (tables_of v.base db) rows m → HandsOut v (applied db t) rows (with_transaction v columns m number t)

-- After an answer.
abbrev pub ReplyHandsOut : Type 0
ReplyHandsOut = (v : KeyedView) (columns : Columns) (db : List Table) (rows : List Codes) (m : ManagerState) (transaction origin : ℕ) (partials : List Partial) → IsAnswered v db m transaction origin partials → IsKeyed v.columns rows
    → Keeps v (tables_of v.base db) rows m → HandsOut v db rows (with_reply v columns m transaction origin partials)
