-- Relations after updates, the state at a cut, and which updates are valid.
use Rattle.std.specs.Prelude.{◌≡◌, ℕ, List, [], ◌∷◌, length, take, fold, slice_get, Some, None}
use Rattle.std.specs.List.{AllByRecursion}
use Rattle.whips_lists.specs.Lists.{changed_at}
use Rattle.whips_model.specs.Tuples.{Codes, at_columns, row_at, put_row, without_key}
use Rattle.whips_model.specs.Relation.{Table, IsTable}
use Rattle.whips_rel.specs.declared.update.Update.{Update}
use Rattle.whips_rel.specs.declared.update.Update.TheVariants.{Insert, Delete}
use Rattle.whips_rel.specs.Updates.{relation_of}

-- The updates of one source transaction, in order.
abbrev pub Updates : Type 0
Updates = List Update

-- The relation with the tuple put where its key belongs.
abbrev pub with_row : Codes → Table → Table
with_row t table = record table { rows = put_row table.columns.key t table.rows }

-- The relation without the row that has the tuple's key.
abbrev pub without_row : Codes → Table → Table
without_row t table = record table { rows = without_key table.columns.key (at_columns table.columns.key t) table.rows }

-- All relations, by number, after an update: an insert adds its tuple, and a delete removes the tuple with its key.
abbrev pub updated : List Table → Update → List Table
updated db (Insert r t) = changed_at r (with_row t) db
updated db (Delete r t) = changed_at r (without_row t) db

-- All relations after the updates of a transaction, one after another.
abbrev pub applied : List Table → Updates → List Table
applied db t = fold updated db t

-- All relations after the transactions, one after another.
abbrev pub all_applied : List Table → List Updates → List Table
all_applied db ts = fold applied db ts

-- The state at a cut: all relations after the first transactions of each source, as many as the cut counts for it.
abbrev pub state_at : List Table → List (List Updates) → List ℕ → List Table
state_at db [] cut = db
state_at db (ts ∷ work) [] = db
state_at db (ts ∷ work) (c ∷ cut) = state_at (all_applied db (take c ts)) work cut

-- A row has the tuple's width; the tuple's key is in no row, or the tuple itself is a row.
abbrev pub IsValidIn : Table → Update → Type 0
IsValidIn table (Insert r t) = (length t ≡ length table.columns.kinds) × (row_at table.columns.key (at_columns table.columns.key t) table.rows ≡ None)
IsValidIn table (Delete r t) = (length t ≡ length table.columns.kinds) × (row_at table.columns.key (at_columns table.columns.key t) table.rows ≡ Some t)

-- The update is valid: its relation is there, its tuple has the relation's width, the key of an insert is in no row, and the tuple of a delete is a row.
pub record IsValid (db : List Table) (u : Update) : Type 0 where
  pub table : Table
  pub there : slice_get db (relation_of u) ≡ Some table
  pub valid : IsValidIn table u

-- The transaction is valid: each of its updates is valid after the ones before it.
abbrev pub AreValid : List Table → Updates → Type 0
AreValid db [] = Unit {0}
AreValid db (u ∷ t) = IsValid db u × AreValid (updated db u) t

-- The transactions of a source are valid in turn: each after the ones before it.
abbrev pub AreAllValid : List Table → List Updates → Type 0
AreAllValid db [] = Unit {0}
AreAllValid db (t ∷ ts) = AreValid db t × AreAllValid (applied db t) ts

-- Each relation has rows of its width in the order of their keys, no key twice.
abbrev pub AreSoundTables : List Table → Type 0
AreSoundTables db = AllByRecursion (λ table. IsTable table.columns table.rows) db
