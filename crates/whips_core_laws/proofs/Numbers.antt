-- No number in a view's value at any cut is above the greatest one.
use Rattle.std.proofs.Common.{◌≡◌, ℕ, zero, suc, true, not, List, [], ◌∷◌, length, take, Some, refl, ap, ◌∙◌}
use Rattle.std.specs.Prelude.{slice_get, nat_le}
use Rattle.std.specs.List.{list_all, AllByRecursion}
use Rattle.std.proofs.lemmas.Bool.{and_parts}
use Rattle.whips_lists.specs.Lists.{changed_at}
use Rattle.whips_model.specs.Tuples.{Codes, at_columns, has_key}
use Rattle.whips_model.specs.Relation.{Table}
use Rattle.whips_model.proofs.Keyed.{widths_put, widths_filter}
use Rattle.whips_rel.specs.declared.update.Update.{Update}
use Rattle.whips_rel.specs.declared.update.Update.TheVariants.{Insert, Delete}
use Rattle.whips_states.specs.States.{Updates, with_row, without_row, updated, applied, all_applied, state_at}
use Rattle.whips_view.specs.ViewDefs.{View, keyed, row_columns, columns_in, is_within, IsWellFormed}
use Rattle.whips_setup.specs.Limits.{has_numbers_within}
use Rattle.whips_setup.specs.Refusals.{IsSetup}
use Rattle.whips_setup.specs.Workloads.{IsWorkload, has_width, is_of_numbers, is_update_within, is_transaction_within, is_list_within}
use Rattle.whips_facts.specs.Scripts.{value_at, Script}
use Rattle.whips_strobe.proofs.Replies.{all_get as each_at}
use Rattle.whips_faithful_laws.proofs.Numbers.{AreTablesWithin, value_within, setup_within}
use Rattle.whips_stage_laws.proofs.Setups.{lists_within}
use Rattle.whips_contents_laws.proofs.Fitting.{columns_changed}
use Rattle.whips_core_laws.proofs.Valid.{based_at}

-- ---- relations

inserted_within : (r : ℕ) (u : Codes) (db : List Table) → is_of_numbers (columns_in (slice_get db r)) u ≡ true → AreTablesWithin db → AreTablesWithin (changed_at r (with_row u) db)
inserted_within r u [] e h = h
inserted_within zero u (t ∷ db) e h = (widths_put (λ u. has_numbers_within t.columns.kinds u ≡ true) t.columns.key u t.rows e h.0, h.1)
inserted_within (suc r) u (t ∷ db) e h = (h.0, inserted_within r u db e h.1)

deleted_within : (r : ℕ) (u : Codes) (db : List Table) → AreTablesWithin db → AreTablesWithin (changed_at r (without_row u) db)
deleted_within r u [] h = h
deleted_within zero u (t ∷ db) h = (widths_filter (λ u. has_numbers_within t.columns.kinds u ≡ true) (λ w. not (has_key t.columns.key (at_columns t.columns.key u) w)) t.rows h.0, h.1)
deleted_within (suc r) u (t ∷ db) h = (h.0, deleted_within r u db h.1)

-- the relations have the columns of these others
abbrev Alike : List Table → List Table → Type 0
Alike db others = (r : ℕ) → columns_in (slice_get db r) ≡ columns_in (slice_get others r)

module _ (first : List Table) where
  updated_within : (u : Update) (db : List Table) → Alike db first → is_update_within first u ≡ true → AreTablesWithin db → AreTablesWithin (updated db u) × Alike (updated db u) first
  updated_within (Insert r t) db a e h = (inserted_within r t db (ap (λ c. is_of_numbers c t) (a r) ∙ (and_parts (has_width first (Insert r t)) (is_of_numbers (columns_in (slice_get first r)) t) e).1) h, λ q. columns_changed (with_row t) (λ w. refl) r db q ∙ a q)
  updated_within (Delete r t) db a e h = (deleted_within r t db h, λ q. columns_changed (without_row t) (λ w. refl) r db q ∙ a q)

  applied_within : (t : Updates) (db : List Table) → Alike db first → list_all (is_update_within first) t ≡ true → AreTablesWithin db → AreTablesWithin (applied db t) × Alike (applied db t) first
  applied_within [] db a e h = (h, a)
  applied_within (u ∷ t) db a e h =
      let both = and_parts (is_update_within first u) (list_all (is_update_within first) t) e in
      let one = updated_within u db a both.0 h in
      applied_within t (updated db u) one.1 both.1 one.0

  taken_within : (c : ℕ) (ts : List Updates) (db : List Table) → Alike db first → list_all (is_transaction_within first) ts ≡ true → AreTablesWithin db → AreTablesWithin (all_applied db (take c ts)) × Alike (all_applied db (take c ts)) first
  taken_within zero ts db a e h = (h, a)
  taken_within (suc c) [] db a e h = (h, a)
  taken_within (suc c) (t ∷ ts) db a e h =
      let both = and_parts (is_transaction_within first t) (list_all (is_transaction_within first) ts) e in
      let one = applied_within t db a (and_parts (is_within 1 16 (length t)) (list_all (is_update_within first) t) both.0).1 h in
      taken_within c ts (applied db t) one.1 both.1 one.0

  state_within : (work : List (List Updates)) (cut : List ℕ) (db : List Table) → Alike db first → list_all (is_list_within first) work ≡ true → AreTablesWithin db → AreTablesWithin (state_at db work cut)
  state_within [] cut db a e h = h
  state_within (ts ∷ work) [] db a e h = h
  state_within (ts ∷ work) (c ∷ cut) db a e h =
      let both = and_parts (is_list_within first ts) (list_all (is_list_within first) work) e in
      let one = taken_within c ts db a (and_parts (nat_le (length ts) 4096) (list_all (is_transaction_within first) ts) both.0).1 h in
      state_within work cut (all_applied db (take c ts)) one.1 both.1 one.0

-- ---- a workload

module _ (s : Script) (is : IsSetup s.setup) (works : IsWorkload s.setup s.work) where
  pub numbers_at : (x : ℕ) (view : View) (cut : List ℕ) → slice_get s.setup.views x ≡ Some view → AllByRecursion (λ t. has_numbers_within (row_columns view).kinds t ≡ true) (value_at s (keyed view) cut)
  numbers_at x view cut there = value_within (state_at s.setup.initial s.work cut) (state_within s.setup.initial s.work cut s.setup.initial (λ r. refl) (lists_within s works) (setup_within s.setup is)) view (each_at IsWellFormed s.setup.views x view is.well_formed there) (based_at s is works x view cut there)
