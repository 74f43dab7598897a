-- What an update makes of the relations.
use Rattle.std.proofs.Common.{◌≡◌, ◌≢◌, ℕ, zero, suc, Some, List, [], ◌∷◌, slice_get, refl, sym, ap, subst}
use Rattle.whips_model.specs.Tuples.{at_columns}
use Rattle.whips_model.specs.Relation.{Table, IsTable}
use Rattle.whips_model.proofs.Keyed.{table_put, table_without}
use Rattle.whips_rel.specs.declared.update.Update.{Update}
use Rattle.whips_rel.specs.declared.update.Update.TheVariants.{Insert, Delete}
use Rattle.whips_states.specs.States.{with_row, without_row, updated, IsValid, AreSoundTables}
use Rattle.whips_lists.specs.Lists.{changed_at}
use Rattle.whips_states.specs.Laws.{TablesStay}

module _ (f : Table → Table) where
  pub changed_same : (db : List Table) (r : ℕ) (table : Table) → slice_get db r ≡ Some table → slice_get (changed_at r f db) r ≡ Some (f table)
  changed_same [] r table e = absurd (cc)
  changed_same (t ∷ db) zero table e = let same : t ≡ table = cc in ap (λ z. Some (f z)) same
  changed_same (t ∷ db) (suc r) table e = changed_same db r table e

  pub changed_other : (db : List Table) (r s : ℕ) → s ≢ r → slice_get (changed_at r f db) s ≡ slice_get db s
  changed_other [] r s ne = refl
  changed_other (t ∷ db) zero zero ne = absurd (ne refl)
  changed_other (t ∷ db) zero (suc s) ne = refl
  changed_other (t ∷ db) (suc r) zero ne = refl
  changed_other (t ∷ db) (suc r) (suc s) ne = changed_other db r s (λ e. ne (ap suc e))

  changed_sound : (db : List Table) (r : ℕ) (table : Table) → AreSoundTables db → slice_get db r ≡ Some table → (IsTable table.columns table.rows → IsTable (f table).columns (f table).rows) → AreSoundTables (changed_at r f db)
  changed_sound [] r table h e keeps = tt
  changed_sound (t ∷ db) zero table h e keeps =
      let same : table ≡ t = cc in
      (subst (λ (z : Table). IsTable (f z).columns (f z).rows) same (keeps (subst (λ (z : Table). IsTable z.columns z.rows) (sym same) h.0)), h.1)
  changed_sound (t ∷ db) (suc r) table h e keeps = (h.0, changed_sound db r table h.1 e keeps)

pub sound_at : (db : List Table) (r : ℕ) (table : Table) → AreSoundTables db → slice_get db r ≡ Some table → IsTable table.columns table.rows
sound_at [] r table h e = absurd (cc)
sound_at (t ∷ db) zero table h e = let same : t ≡ table = cc in subst (λ (z : Table). IsTable z.columns z.rows) same h.0
sound_at (t ∷ db) (suc r) table h e = sound_at db r table h.1 e

-- an update leaves tables tables
pub update_sound : (db : List Table) (u : Update) → AreSoundTables db → IsValid db u → AreSoundTables (updated db u)
update_sound db (Insert r t) h v = changed_sound (with_row t) db r v.table h v.there (λ is. table_put v.table.columns v.table.rows t is v.valid.0)
update_sound db (Delete r t) h v = changed_sound (without_row t) db r v.table h v.there (λ is. table_without v.table.columns v.table.rows (at_columns v.table.columns.key t) is)

pub tables_stay : TablesStay
tables_stay db [] h v = h
tables_stay db (u ∷ t) h v = tables_stay (updated db u) t (update_sound db u h v.0) v.1
