-- What transactions make of relations and of a view's value.
use Rattle.std.specs.Prelude.{◌≡◌, ◌⊎◌, ◌↔◌, ℕ, ◌<◌, false, List, map, slice_get, Some, fold}
use Rattle.whips_model.specs.Tuples.{Codes, at_columns, without_key, IsKeyed}
use Rattle.whips_lists.specs.Members.{Has}
use Rattle.whips_model.specs.Relation.{Table, value_of}
use Rattle.whips_model.specs.Views.{ViewData}
use Rattle.whips_choices.specs.KeyedViews.{KeyedView, part_key}
use Rattle.whips_choices.specs.Edits.{put_rows}
use Rattle.whips_choices.specs.Partials.{meets_at}
use Rattle.whips_rel.specs.declared.update.Update.TheVariants.{Insert, Delete}
use Rattle.whips_states.specs.States.{Updates, applied, AreValid, AreSoundTables}
use Rattle.whips_states.specs.Concerns.{meets_part, concerns}
use Rattle.whips_states.specs.Net.{inserted, deleted, first_of_key, last_of_key, given_at, taken_at, relation_at}

-- A valid transaction that doesn't concern a view leaves the view's value as it was.
abbrev pub UnconcernedKeeps : Type 0
UnconcernedKeeps = (view : ViewData) (db : List Table) (t : Updates) → AreSoundTables db → AreValid db t → concerns view t ≡ false → value_of view (applied db t) ≡ value_of view db

-- A transaction leaves tables tables.
abbrev pub TablesStay : Type 0
TablesStay = (db : List Table) (t : Updates) → AreSoundTables db → AreValid db t → AreSoundTables (applied db t)

-- The rows that have none of these keys.
abbrev pub without_keys : List ℕ → List Codes → List Codes → List Codes
without_keys key ks rows = fold (λ rows k. without_key key k rows) rows ks

-- After a valid transaction a relation has its rows without the keys whose first update is a delete, and then with the tuples whose key's last update is their insert.
abbrev pub NetRows : Type 0
NetRows = (db : List Table) (t : Updates) (r : ℕ) (table : Table) → AreSoundTables db → AreValid db t → slice_get db r ≡ Some table
    → slice_get (applied db t) r ≡ Some (record table { rows = put_rows table.columns.key (inserted r table.columns.key t) (without_keys table.columns.key (map (at_columns table.columns.key) (deleted r table.columns.key t)) table.rows) })

-- The inserted tuples of a transaction are those whose key's last update is their insert, and they are in the order of their keys.
abbrev pub InsertedLast : Type 0
InsertedLast = (r : ℕ) (key : List ℕ) (t : Updates) → IsKeyed key (inserted r key t) × ((s : Codes) → Has s (inserted r key t) ↔ (last_of_key r key (at_columns key s) t ≡ Some (Insert r s)))

-- The deleted tuples of a transaction are those whose key's first update is their delete, and they are in the order of their keys.
abbrev pub DeletedFirst : Type 0
DeletedFirst = (r : ℕ) (key : List ℕ) (t : Updates) → IsKeyed key (deleted r key t) × ((s : Codes) → Has s (deleted r key t) ↔ (first_of_key r key (at_columns key s) t ≡ Some (Delete r s)))

-- An inserted tuple is given, or doesn't meet the view; the key of a deleted tuple is taken, or the tuple doesn't meet the view.
abbrev pub OthersMiss : Type 0
OthersMiss = (v : KeyedView) (t : Updates) (part : ℕ) (s : Codes)
    → (Has s (inserted (relation_at v part) (part_key v part) t) → Has s (given_at v t part) ⊎ (meets_part v.base part s ≡ false))
    × (Has s (deleted (relation_at v part) (part_key v part) t) → Has (at_columns (part_key v part) s) (taken_at v t part) ⊎ (meets_part v.base part s ≡ false))

-- The test of one tuple is that of the partial choice that has this tuple alone.
abbrev pub MeetsAlone : Type 0
MeetsAlone = (view : ViewData) (n part : ℕ) (t : Codes) → part < n → meets_at view n part t ≡ meets_part view part t
