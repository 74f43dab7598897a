-- What one made update does to the relations and to the lists of transactions.
use Rattle.std.proofs.Common.{◌≡◌, ℕ, ◌==◌, Bool, true, false, cond, List, [], ◌∷◌, ◌++◌, Some, refl, sym, ap, subst, ◌∙◌}
use Rattle.whips_lists.specs.Lists.{changed_at}
use Rattle.whips_model.specs.Tuples.{Codes, row_at, without_key}
use Rattle.whips_model.specs.Relation.{Table}
use Rattle.whips_choices.proofs.Rows.{row_found}
use Rattle.whips_rel.specs.declared.update.Update.{Update}
use Rattle.whips_rel.specs.declared.update.Update.TheVariants.{Insert, Delete}
use Rattle.whips_rel.specs.Updates.{relation_of}
use Rattle.whips_states.specs.States.{with_row, without_row, updated}
use Rattle.whips_gen.specs.Made.{table_after, transactions_of}

pub columns_stay : (u : Update) (table : Table) → (table_after u table).columns ≡ table.columns
columns_stay (Insert r t) table = refl
columns_stay (Delete r t) table = refl

pub first_updated : (u : Update) (a b : Table) → relation_of u ≡ 0 → updated (a ∷ b ∷ []) u ≡ table_after u a ∷ b ∷ []
first_updated (Insert r t) a b e = ap (λ n. changed_at n (with_row t) (a ∷ b ∷ [])) e
first_updated (Delete r t) a b e = ap (λ n. changed_at n (without_row t) (a ∷ b ∷ [])) e

pub second_updated : (u : Update) (a b : Table) → relation_of u ≡ 1 → updated (a ∷ b ∷ []) u ≡ a ∷ table_after u b ∷ []
second_updated (Insert r t) a b e = ap (λ n. changed_at n (with_row t) (a ∷ b ∷ [])) e
second_updated (Delete r t) a b e = ap (λ n. changed_at n (without_row t) (a ∷ b ∷ [])) e

-- a relation without the row that was found by its key
pub deleted_is : (table after : Table) (k t : Codes) → row_at table.columns.key k table.rows ≡ Some t → after ≡ record table { rows = without_key table.columns.key k table.rows } → after ≡ without_row t table
deleted_is table after k t found is = is ∙ ap (λ l. record table { rows = without_key table.columns.key l table.rows }) (sym (row_found table.columns.key k t table.rows found).1)

-- the transactions of a relation, of one update and of all later ones
pub one_more : (r : ℕ) (u : Update) (us : List Update) → transactions_of r (u ∷ us) ≡ transactions_of r (u ∷ []) ++ transactions_of r us
one_more r u us = go (relation_of u == r) refl
  where
    go : (b : Bool) → relation_of u == r ≡ b → transactions_of r (u ∷ us) ≡ transactions_of r (u ∷ []) ++ transactions_of r us
    go true e = rw e refl
    go false e = rw e refl
