-- Updates made in a relation, and in all.
use Rattle.std.proofs.Common.{◌≡◌, ℕ, zero, suc, ◌<◌, List, [], ◌∷◌, length, set, get_or, slice_get, Some, Result, Ok, Err, IfOk, refl, sym, ap, ◌∙◌}
use Rattle.std.proofs.lemmas.Option.{slice_get_read}
use Rattle.serde_json.specs.Data.{Data}
use Rattle.whips_lists.specs.Lists.{changed_at}
use Rattle.whips_model.specs.Tuples.{Codes, row_at, without_key}
use Rattle.whips_model.specs.Relation.{Table}
use Rattle.whips_choices.proofs.Rows.{row_found}
use Rattle.whips_rel.specs.declared.update.Update.{Update}
use Rattle.whips_rel.specs.declared.update.Update.TheVariants.{Insert, Delete}
use Rattle.whips_states.specs.States.{with_row, without_row, updated}
use Rattle.whips_reading.specs.declared.place.ReadErr.{ReadErr}
use Rattle.whips_reading.specs.declared.place.Code.TheVariants.{Name}
use Rattle.whips_reading.specs.Json.{Text}
use Rattle.whips_reading.specs.Places.{Place, in_element}
use Rattle.whips_reading.specs.Reading.{◌>>=◌, there, Answers}
use Rattle.whips_update_reading.specs.declared.target.Change.{Change}
use Rattle.whips_update_reading.specs.Updates.{IsMadeIn, update_of, update_at}

-- a delete by key takes out the row that it names
pub deleted : (table after : Table) (k t : Codes) → row_at table.columns.key k table.rows ≡ Some t → after ≡ record table { rows = without_key table.columns.key k table.rows } → after ≡ without_row t table
deleted table after k t found is = is ∙ ap (λ k. record table { rows = without_key table.columns.key k table.rows }) (sym (row_found table.columns.key k t table.rows found).1)

-- the element at one place changed
module _ {X : Type 0} (f : X → X) where
  set_changed : (xs : List X) (i : ℕ) (x : X) → slice_get xs i ≡ Some x → set xs i (f x) ≡ changed_at i f xs
  set_changed [] i x e = refl
  set_changed (y ∷ xs) zero x e = let same : y ≡ x = cc in ap (λ z. f z ∷ xs) (sym same)
  set_changed (y ∷ xs) (suc i) x e = ap (λ l. y ∷ l) (set_changed xs i x e)

-- an update made in its relation is made in all
made_in_all : (db : List Table) (n : ℕ) (table after : Table) (u : Update) → slice_get db n ≡ Some table → IsMadeIn n table u after → set db n after ≡ updated db u
made_in_all db n table after (Insert q t) there_is made = ap (set db n) made.1 ∙ set_changed (with_row t) db n table there_is ∙ ap (λ m. changed_at m (with_row t) db) (sym made.0)
made_in_all db n table after (Delete q t) there_is made = ap (set db n) made.1 ∙ set_changed (without_row t) db n table there_is ∙ ap (λ m. changed_at m (without_row t) db) (sym made.0)

module _ (texts : List Text) (db : List Table) (n : ℕ) (table after : Table) (change : Change) (place : Place) (d : Data) (in_range : n < length db) (is : table ≡ get_or db n table) where
  found : slice_get db n ≡ Some table
  found = slice_get_read db (length db) n table refl in_range is

  -- the update of one relation is the update of that relation of all
  pub update_found : (r : Result Update ReadErr) → Answers (λ u. u) r (update_of texts table n change place d) → Answers (λ u. u) r (update_at texts db n change place d)
  update_found (Ok u) e = ap (λ o. there o Name (in_element place 1) >>= λ t. update_of texts t n change place d) found ∙ e
  update_found (Err x) e = λ r is_refused. ap (λ o. there o Name (in_element place 1) >>= λ t. update_of texts t n change place d) found ∙ e r is_refused

  pub update_made : (r : Result Update ReadErr) → IfOk r (λ u. IsMadeIn n table u after) → IfOk r (λ u. set db n after ≡ updated db u)
  update_made (Ok u) made = made_in_all db n table after u found made
  update_made (Err x) made = tt
