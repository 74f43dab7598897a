-- The tuples of a workload have the widths of their relations, so that each query can be asked and each reply fits.
use Rattle.std.proofs.Common.{◌≡◌, ℕ, zero, suc, ◌-◌, ◌<◌, true, List, [], ◌∷◌, length, map, Option, Some, None, refl, sym, ap, subst, ◌∙◌, arith, eqb-true}
use Rattle.std.specs.Prelude.{slice_get, slice_index, nat_le}
use Rattle.std.specs.Option.{option_and_then, unwrap_or}
use Rattle.std.specs.List.{list_all}
use Rattle.std.proofs.lemmas.Bool.{and_parts}
use Rattle.std.proofs.lemmas.List.{length-map}
use Rattle.whips_lists.proofs.ByPlace.{get_mapped}
use Rattle.whips_model.specs.Tuples.{Columns}
use Rattle.whips_model.specs.Relation.{Table}
use Rattle.whips_rel.specs.declared.update.Update.{Update}
use Rattle.whips_rel.specs.Updates.{relation_of, tuple_of}
use Rattle.whips_states.specs.States.{Updates}
use Rattle.whips_view.specs.ViewDefs.{View, keyed, columns_in, is_within, HasBases}
use Rattle.whips_view.specs.Widths.{widths_of}
use Rattle.whips_setup.specs.Refusals.{IsSetup}
use Rattle.whips_setup.specs.Workloads.{IsWorkload, has_width, is_of_width, is_of_numbers, is_update_within, is_transaction_within, is_list_within}
use Rattle.whips_facts.specs.Scripts.{Script}
use Rattle.whips_managers.specs.Messages.{HasWidth, HaveWidths}
use Rattle.whips_strobe.proofs.Replies.{all_get as each_at}
use Rattle.whips_stage_laws.proofs.Setups.{all_at, lists_within}
use Rattle.whips_contents_laws.specs.Fitting.{FitsWidths}
use Rattle.whips_core_laws.proofs.Valid.{index_from}

base_at : (db : List Table) (relations : List ℕ) (bases : List Columns) → map (λ r. columns_in (slice_get db r)) relations ≡ map (λ b. Some b) bases → (part : ℕ) → part < length bases → (base : Columns) × (slice_get bases part ≡ Some base) × (columns_in (slice_get db (slice_index relations part)) ≡ Some base)
base_at db relations [] e part lt = absurd (omega (arith, lt))
base_at db [] (b ∷ bases) e part lt = absurd (cc)
base_at db (r ∷ relations) (b ∷ bases) e zero lt = (b, refl, cc)
base_at db (r ∷ relations) (b ∷ bases) e (suc part) lt =
    let rest : map (λ r. columns_in (slice_get db r)) relations ≡ map (λ b. Some b) bases = cc in
    base_at db relations bases rest part (omega (arith, lt))

module _ (db : List Table) (view : View) (has : HasBases view db) where
  wide : (u : Update) → is_update_within db u ≡ true → HasWidth (keyed view) (widths_of view) u
  wide u e part lt same =
      let b = base_at db view.parts.relations view.bases has part (omega (arith, lt, length-map view.bases (λ (b : Columns). b.key))) in
      let w = (and_parts (has_width db u) (is_of_numbers (columns_in (slice_get db (relation_of u))) (tuple_of u)) e).0 in
      let own : is_of_width (Some b.0) (tuple_of u) ≡ true = subst (λ o. is_of_width o (tuple_of u) ≡ true) (ap (λ r. columns_in (slice_get db r)) same ∙ b.2) w in
      eqb-true (length (tuple_of u)) (length b.0.kinds) own ∙ sym (index_from (widths_of view) part (length b.0.kinds) (get_mapped (λ (b : Columns). length b.kinds) part view.bases b.0 b.1))

  all_wide : (t : Updates) → list_all (is_update_within db) t ≡ true → HaveWidths (keyed view) (widths_of view) t
  all_wide [] e = tt
  all_wide (u ∷ t) e = let both = and_parts (is_update_within db u) (list_all (is_update_within db) t) e in (wide u both.0, all_wide t both.1)

  one_wide : (ts : List Updates) (j : ℕ) → list_all (is_transaction_within db) ts ≡ true → HaveWidths (keyed view) (widths_of view) (unwrap_or (slice_get ts j) [])
  one_wide ts j e = go (slice_get ts j) refl
    where
      go : (o : Option Updates) → slice_get ts j ≡ o → HaveWidths (keyed view) (widths_of view) (unwrap_or o [])
      go None at = tt
      go (Some t) at = all_wide t (and_parts (is_within 1 16 (length t)) (list_all (is_update_within db) t) (all_at (is_transaction_within db) ts j t e at)).1

  each_wide : (work : List (List Updates)) (y j : ℕ) → list_all (is_list_within db) work ≡ true → HaveWidths (keyed view) (widths_of view) (unwrap_or (option_and_then (λ ts. slice_get ts j) (slice_get work y)) [])
  each_wide work y j e = go (slice_get work y) refl
    where
      go : (o : Option (List Updates)) → slice_get work y ≡ o → HaveWidths (keyed view) (widths_of view) (unwrap_or (option_and_then (λ ts. slice_get ts j) o) [])
      go None at = tt
      go (Some ts) at = one_wide ts j (and_parts (nat_le (length ts) 4096) (list_all (is_transaction_within db) ts) (all_at (is_list_within db) work y ts e at)).1

pub widths_fit : (s : Script) → IsSetup s.setup → IsWorkload s.setup s.work → FitsWidths s
widths_fit s is works = record {
  tables = is.tables;
  bases = λ x view there. each_at (λ view. HasBases view s.setup.initial) s.setup.views x view is.bases there;
  widths = λ x view there y k. each_wide s.setup.initial view (each_at (λ view. HasBases view s.setup.initial) s.setup.views x view is.bases there) s.work y (k - 1) (lists_within s works);
}
