-- Relations after an update.
use Rattle.std.proofs.Common.{◌≡◌, ℕ, zero, suc, List, [], ◌∷◌, get_or, set, slice_get, Some, Result, Ok, Err, OnOk, refl, sym, ap, subst, ◌∙◌}
use Rattle.std.proofs.lemmas.Option.{get_or_from_slice_get}
use Rattle.whips_model.specs.Tuples.{Codes}
use Rattle.whips_model.specs.Relation.{Table}
use Rattle.whips_rel.specs.declared.update.Update.{Update}
use Rattle.whips_rel.specs.declared.update.Update.TheVariants.{Insert, Delete}
use Rattle.whips_rel.specs.Updates.{relation_of}
use Rattle.whips_states.specs.States.{with_row, without_row, updated, IsValid}
use Rattle.whips_lists.specs.Lists.{changed_at}

set_changed : (f : Table → Table) (xs : List Table) (i : ℕ) (x : Table) → slice_get xs i ≡ Some x → set xs i (f x) ≡ changed_at i f xs
set_changed f [] i x e = refl
set_changed f (y ∷ xs) zero x e = let same : y ≡ x = cc in ap (λ z. f z ∷ xs) (sym same)
set_changed f (y ∷ xs) (suc i) x e = ap (λ l. y ∷ l) (set_changed f xs i x e)

on_ok : {T E : Type 0} (r : Result T E) (P Q : Type 0) → (P → Q) → OnOk r P → OnOk r Q
on_ok (Ok x) P Q f p = f p
on_ok (Err e) P Q f p = p

module _ {T E : Type 0} (db : List Table) (u : Update) (n q : ℕ) (t : Codes) (old new : Table) (r : Result T E) (number : n ≡ relation_of u) (valid : IsValid db u) (is_old : old ≡ get_or db n old) where
  there : slice_get db n ≡ Some old
  there =
      let at : slice_get db n ≡ Some valid.table = ap (slice_get db) number ∙ valid.there in
      at ∙ ap Some (sym (is_old ∙ get_or_from_slice_get db n valid.table old at))

  pub insert_made : u ≡ Insert q t → OnOk r (new ≡ with_row t old) → OnOk r (set db n new ≡ updated db u)
  insert_made is p =
      let same : u ≡ Insert n t = is ∙ ap (λ m. Insert m t) (sym (number ∙ ap relation_of is)) in
      subst (λ v. OnOk r (set db n new ≡ updated db v)) (sym same) (on_ok r (new ≡ with_row t old) (set db n new ≡ updated db (Insert n t)) (λ e. ap (set db n) e ∙ set_changed (with_row t) db n old there) p)

  pub delete_made : u ≡ Delete q t → OnOk r (new ≡ without_row t old) → OnOk r (set db n new ≡ updated db u)
  delete_made is p =
      let same : u ≡ Delete n t = is ∙ ap (λ m. Delete m t) (sym (number ∙ ap relation_of is)) in
      subst (λ v. OnOk r (set db n new ≡ updated db v)) (sym same) (on_ok r (new ≡ without_row t old) (set db n new ≡ updated db (Delete n t)) (λ e. ap (set db n) e ∙ set_changed (without_row t) db n old there) p)
