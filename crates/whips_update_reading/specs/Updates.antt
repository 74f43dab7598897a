-- The updates of a source.
use Rattle.std.specs.Prelude.{◌≡◌, ℕ, ◌+◌, ◌≤◌, List, [], ◌∷◌, ◌++◌, map, length, codes, if◌then◌else◌, Ok, is_none, slice_get}
use Rattle.std.specs.Str.{bytes_eq}
use Rattle.serde_json.specs.Data.{Data}
use Rattle.whips_model.specs.declared.Kind.{Kind}
use Rattle.whips_model.specs.Tuples.{Codes, at_columns, row_at}
use Rattle.whips_model.specs.Relation.{Table}
use Rattle.whips_rel.specs.declared.update.Update.{Update}
use Rattle.whips_rel.specs.declared.update.Update.TheVariants.{Insert, Delete}
use Rattle.whips_states.specs.States.{with_row, without_row, updated}
use Rattle.whips_reading.specs.declared.place.Code.TheVariants.{Shape, Name, Present, Absent}
use Rattle.whips_reading.specs.Json.{Text, is_text}
use Rattle.whips_reading.specs.Places.{Place, in_element}
use Rattle.whips_reading.specs.Reading.{Read, ◌>>=◌, ◌>>◌, refuse, check, there, listed, triple, elements, in_turn}
use Rattle.whips_reading.specs.Names.{text_in, named}
use Rattle.whips_relation_reading.specs.Rows.{kind_at, values}
use Rattle.whips_relation_reading.specs.Relations.{RelationForm, relation_names}
use Rattle.whips_update_reading.specs.declared.target.Change.{Change}
use Rattle.whips_update_reading.specs.declared.target.Change.TheVariants.{Insertion, Deletion}
use Rattle.whips_update_reading.specs.declared.target.Target.{Target}

-- The kinds of the key columns.
abbrev pub key_kinds : List Kind → List ℕ → List Kind
key_kinds kinds key = map (kind_at kinds) key

-- What an update does: `insert` or `delete`.
abbrev pub change_of : Place → Text → Read Change
change_of place text = if bytes_eq text (codes "insert") then Ok Insertion else (if bytes_eq text (codes "delete") then Ok Deletion else refuse Shape place)

abbrev pub change_in : Place → Data → Read Change
change_in place d = text_in place d >>= change_of place

-- The row that an insert puts in, whose key isn't there. Its values stand third in the update at this place.
abbrev pub row_inserted : List Text → Table → Place → Data → Read Codes
row_inserted texts table place d = do
  t ← values texts table.columns.kinds (in_element place 2) d
  check (is_none (row_at table.columns.key (at_columns table.columns.key t) table.rows)) Present place
  Ok t

-- The row that a delete takes out: the whole row that has the key.
abbrev pub row_deleted : List Text → Table → Place → Data → Read Codes
row_deleted texts table place d = do
  k ← values texts (key_kinds table.columns.kinds table.columns.key) (in_element place 2) d
  there (row_at table.columns.key k table.rows) Absent place

abbrev pub update_of : List Text → Table → ℕ → Change → Place → Data → Read Update
update_of texts table r Insertion place d = do
  t ← row_inserted texts table place d
  Ok (Insert r t)
update_of texts table r Deletion place d = do
  t ← row_deleted texts table place d
  Ok (Delete r t)

-- The update of the relation with number r.
abbrev pub update_at : List Text → List Table → ℕ → Change → Place → Data → Read Update
update_at texts tables r change place d = do
  table ← there (slice_get tables r) Name (in_element place 1)
  update_of texts table r change place d

-- The relation is as it was, but for this update of relation r.
abbrev pub IsMadeIn : ℕ → Table → Update → Table → Type 0
IsMadeIn r table (Insert q t) after = (q ≡ r) × (after ≡ with_row t table)
IsMadeIn r table (Delete q t) after = (q ≡ r) × (after ≡ without_row t table)

-- The texts of the script, the relations of a source, which its updates name, and the number of the first of them among the relations of all sources so far.
pub record Scope : Type 0 where
  pub texts : List Text
  pub relations : List RelationForm
  pub first : ℕ

-- The relations of all sources so far, after the updates made; the updates made of the transaction that is read; and the transactions of the source before it.
pub record Work : Type 0 where
  pub tables : List Table
  pub made : List Update
  pub transactions : List (List Update)

-- The source is the last one, and there are at most 32 relations.
pub record IsScopeOf (scope : Scope) (tables : List Table) : Type 0 where
  pub last : scope.first + length scope.relations ≡ length tables
  pub few : length tables ≤ 32

abbrev pub with_update : Work → Update → Work
with_update work u = record work { tables = updated work.tables u; made = work.made ++ u ∷ [] }

-- What an update does to which relation, one of the source, by its first two elements.
abbrev pub target_in : Scope → Place → Data → Data → Read Target
target_in scope place change name = do
  change ← change_in (in_element place 0) change
  r ← named (relation_names scope.relations) (in_element place 1) name
  Ok (record { change = change; relation = scope.first + r })

-- One more update: a list of what it does, the name of a relation, and values.
abbrev pub update_from : Scope → Work → Place → Data × Data × Data → Read Work
update_from scope work place (change, name, d) = do
  target ← target_in scope place change name
  u ← update_at scope.texts work.tables target.relation target.change place d
  Ok (with_update work u)

abbrev pub update_added : Scope → Work → Place → Data → Read Work
update_added scope work place d = triple place d >>= update_from scope work place

-- 1 to 16 updates.
abbrev pub updates_added : Scope → Work → Place → Data → Read Work
updates_added scope work place d = elements 1 16 place d >>= in_turn (update_added scope) place 0 work

-- The updates of a transaction: a list of `all` and a list of updates, or one update.
abbrev pub all_added : Scope → Work → Place → Data → Data → Read Work
all_added scope work place word list = check (is_text (codes "all") word) Shape place >> updates_added scope work (in_element place 1) list

abbrev pub entry_from : Scope → Work → Place → Data → List Data → Read Work
entry_from scope work place d (word ∷ list ∷ []) = all_added scope work place word list
entry_from scope work place d ds = update_added scope work place d

abbrev pub entry_added : Scope → Work → Place → Data → Read Work
entry_added scope work place d = listed place d >>= entry_from scope work place d

-- One more transaction: its updates, each on the relations after the ones before it.
abbrev pub with_transaction : Work → Work
with_transaction work = record { tables = work.tables; made = []; transactions = work.transactions ++ work.made ∷ [] }

abbrev pub transaction_added : Scope → Work → Place → Data → Read Work
transaction_added scope work place d = do
  work ← entry_added scope work place d
  Ok (with_transaction work)

-- Up to 4,096 transactions.
abbrev pub transactions_added : Scope → Work → Place → Data → Read Work
transactions_added scope work place d = elements 0 4096 place d >>= in_turn (transaction_added scope) place 0 work
