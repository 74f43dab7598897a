-- The rows of relations with the columns that a view was made with.
use Rattle.std.proofs.Common.{◌≡◌, ℕ, zero, suc, ◌<◌, Option, Some, None, List, [], ◌∷◌, length, map, get_or, slice_get, refl, sym, subst, ◌∙◌, arith}
use Rattle.std.proofs.lemmas.List.{get_or-map}
use Rattle.whips_model.specs.Tuples.{Columns, IsKeyed}
use Rattle.whips_model.specs.Relation.{Table, IsTable, rows_in, table_rows}
use Rattle.whips_lists.proofs.Members.{all_has}
use Rattle.whips_states.specs.States.{AreSoundTables}
use Rattle.whips_states.proofs.Changed.{sound_at}
use Rattle.whips_view.specs.ViewDefs.{columns_in, no_columns}
use Rattle.whips_ask_laws.specs.Laws.{BasesAreSoundParts}

is_table : (db : List Table) (r : ℕ) (columns : Columns) → AreSoundTables db → columns_in (slice_get db r) ≡ Some columns → IsTable columns (table_rows db r)
is_table db r columns sound e = go (slice_get db r) refl e
  where
    go : (o : Option Table) → slice_get db r ≡ o → columns_in o ≡ Some columns → IsTable columns (rows_in o)
    go None s g = absurd (cc)
    go (Some table) s g = let same : table.columns ≡ columns = cc in subst (λ z. IsTable z table.rows) same (sound_at db r table sound s)

tables_at : (db : List Table) (relations : List ℕ) (bases : List Columns) → AreSoundTables db → map (λ r. columns_in (slice_get db r)) relations ≡ map (λ b. Some b) bases → (i : ℕ) → i < length bases
    → IsTable (get_or bases i no_columns) (get_or (map (table_rows db) relations) i [])
tables_at db relations [] sound e i lt = absurd (omega arith)
tables_at db [] (base ∷ bases) sound e i lt = absurd (cc)
tables_at db (r ∷ relations) (base ∷ bases) sound e zero lt =
    let first : columns_in (slice_get db r) ≡ Some base = cc in
    is_table db r base sound first
tables_at db (r ∷ relations) (base ∷ bases) sound e (suc i) lt =
    let rest : map (λ r. columns_in (slice_get db r)) relations ≡ map (λ b. Some b) bases = cc in
    tables_at db relations bases sound rest i (omega arith)

pub bases_sound : BasesAreSoundParts
bases_sound view db parts sound has below = record {
  keyed = λ part h.
      let lt = below part h in
      subst (λ z. IsKeyed z (get_or (map (table_rows db) view.parts.relations) part [])) (sym (get_or-map (λ (b : Columns). b.key) view.bases part no_columns [] lt)) (tables_at db view.parts.relations view.bases sound has part lt).keyed;
  wide = λ part t h g.
      let lt = below part h in
      all_has (λ t. length t ≡ length (get_or view.bases part no_columns).kinds) (get_or (map (table_rows db) view.parts.relations) part []) (tables_at db view.parts.relations view.bases sound has part lt).widths t g
      ∙ sym (get_or-map (λ (b : Columns). length b.kinds) view.bases part no_columns 0 lt);
}
