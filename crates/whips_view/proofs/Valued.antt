-- The value of a view is a table with the columns of its rows.
use Rattle.std.proofs.Common.{◌≡◌, ℕ, zero, suc, ◌<◌, Option, Some, None, List, [], ◌∷◌, length, map, get_or, slice_get, refl, sym, ap, subst, ◌∙◌, arith}
use Rattle.std.specs.List.{filter, AllByRecursion}
use Rattle.std.specs.Option.{unwrap_or}
use Rattle.std.proofs.lemmas.List.{length-map}
use Rattle.whips_model.specs.declared.Kind.TheVariants.{Number}
use Rattle.whips_model.specs.declared.ColRef.{ColRef}
use Rattle.whips_model.specs.Tuples.{Columns, IsKeyed}
use Rattle.whips_model.specs.Relation.{Table, IsTable, rows_in, table_rows, value_of}
use Rattle.whips_model.specs.Views.{code_at, out_row, meets, choices}
use Rattle.whips_lists.proofs.Members.{all_from_has, has_before}
use Rattle.whips_choices.specs.KeyedViews.{AreTables}
use Rattle.whips_choices.proofs.Values.{value_in_order}
use Rattle.whips_states.specs.States.{AreSoundTables}
use Rattle.whips_view.specs.ViewDefs.{View, keyed, kind_of, row_columns, columns_in, HasBases, IsWellFormed}

pub table_at : (db : List Table) (r : ℕ) (table : Table) → AreSoundTables db → slice_get db r ≡ Some table → IsTable table.columns table.rows
table_at [] r table h e = absurd (cc)
table_at (t ∷ db) zero table h e = let same : t ≡ table = cc in subst (λ (z : Table). IsTable z.columns z.rows) same h.0
table_at (t ∷ db) (suc r) table h e = table_at db r table h.1 e

-- the relations are there
in_range : (db : List Table) (r : ℕ) (columns : Columns) → columns_in (slice_get db r) ≡ Some columns → r < length db
in_range [] r columns e = absurd (cc)
in_range (t ∷ db) zero columns e = omega arith
in_range (t ∷ db) (suc r) columns e = let lt = in_range db r columns e in omega arith

keyed_at : (db : List Table) (r : ℕ) (columns : Columns) → AreSoundTables db → columns_in (slice_get db r) ≡ Some columns → IsKeyed columns.key (table_rows db r)
keyed_at db r columns h e = go (slice_get db r) refl e
  where
    go : (o : Option Table) → slice_get db r ≡ o → columns_in o ≡ Some columns → IsKeyed columns.key (rows_in o)
    go None s g = absurd (cc)
    go (Some table) s g =
        let same : table.columns ≡ columns = cc in
        subst (λ (z : Columns). IsKeyed z.key table.rows) same (table_at db r table h s).keyed

module _ (db : List Table) where
  pub bases_there : (relations : List ℕ) (bases : List Columns) → map (λ r. columns_in (slice_get db r)) relations ≡ map (λ b. Some b) bases → AllByRecursion (λ r. r < length db) relations
  bases_there [] bases e = tt
  bases_there (r ∷ relations) [] e = absurd (cc)
  bases_there (r ∷ relations) (base ∷ bases) e =
      let first : columns_in (slice_get db r) ≡ Some base = cc in
      let rest : map (λ r. columns_in (slice_get db r)) relations ≡ map (λ b. Some b) bases = cc in
      (in_range db r base first, bases_there relations bases rest)

  module _ (sound : AreSoundTables db) where
    tables_keyed : (relations : List ℕ) (bases : List Columns) → map (λ r. columns_in (slice_get db r)) relations ≡ map (λ b. Some b) bases
        → (i : ℕ) → i < length (map (λ b. b.key) bases) → IsKeyed (get_or (map (λ b. b.key) bases) i []) (get_or (map (table_rows db) relations) i [])
    tables_keyed relations [] e i lt = absurd (omega arith)
    tables_keyed [] (base ∷ bases) e i lt = absurd (cc)
    tables_keyed (r ∷ relations) (base ∷ bases) e zero lt =
        let first : columns_in (slice_get db r) ≡ Some base = cc in
        keyed_at db r base sound first
    tables_keyed (r ∷ relations) (base ∷ bases) e (suc i) lt =
        let rest : map (λ r. columns_in (slice_get db r)) relations ≡ map (λ b. Some b) bases = cc in
        tables_keyed relations bases rest i (omega arith)

    pub part_tables : (view : View) → IsWellFormed view → HasBases view db → AreTables (keyed view) (map (table_rows db) view.parts.relations)
    part_tables view well has =
        let a = length-map view.parts.relations (table_rows db) in
        let b = length-map view.bases (λ (b : Columns). b.key) in
        record {
          parts = a ∙ sym well.bases ∙ sym b;
          keyed = tables_keyed view.parts.relations view.bases has;
        }

    pub value_table : (view : View) → IsWellFormed view → HasBases view db → IsTable (row_columns view) (value_of view.parts db)
    value_table view well has = record {
      widths = all_from_has _ (value_of view.parts db) (λ t h.
          let from = has_before (out_row view.parts) t (filter (meets view.parts) (choices (map (table_rows db) view.parts.relations))) h in
          ap length from.2 ∙ length-map view.parts.out (code_at from.0) ∙ sym (length-map view.parts.out (λ (at : ColRef). unwrap_or (kind_of view.bases at) Number)));
      keyed = value_in_order (keyed view) well.keyed (map (table_rows db) view.parts.relations) (part_tables view well has);
    }
