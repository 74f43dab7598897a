-- The loop over the updates.
use Rattle.std.proofs.Common.{◌≡◌, ℕ, zero, suc, ◌+◌, ◌-◌, ◌<◌, ◌≤◌, List, [], ◌∷◌, ◌++◌, append-nil, append_assoc, refl, sym, ap, ap₂, subst, ◌∙◌, arith}
use Rattle.whips_model.specs.Relation.{Table}
use Rattle.whips_rel.specs.declared.update.Update.{Update}
use Rattle.whips_states.specs.States.{Updates, updated}
use Rattle.whips_gen.specs.Shop.{shop_tables, order_columns, item_columns}
use Rattle.whips_gen.specs.Making.{HasColumns}
use Rattle.whips_gen.specs.Made.{update_made, updates_made, transactions_of, work_of}
use Rattle.whips_gen.proofs.Updates.{one_more}

-- what is left to make, and what is made, are the transactions of a source
abbrev pub GoesOn : (r : ℕ) (all : List Update) (made : List Updates) (left state : ℕ) (db : List Table) → Type 0
GoesOn r all made left state db = transactions_of r all ≡ made ++ transactions_of r (updates_made left state db)

-- one update is made
pub goes_on : (r : ℕ) (all : List Update) (made after : List Updates) (left next_left state next : ℕ) (db next_db : List Table) → left ≡ suc next_left → next ≡ (update_made state db).state → next_db ≡ updated db (update_made state db).update
    → after ≡ made ++ transactions_of r ((update_made state db).update ∷ []) → GoesOn r all made left state db → GoesOn r all after next_left next next_db
goes_on r all made after left next_left state next db next_db less is are adds h =
    let u = (update_made state db).update in
    let rest = updates_made next_left next next_db in
    let same : updates_made left state db ≡ u ∷ rest = ap (λ n. updates_made n state db) less ∙ ap₂ (λ s d. u ∷ updates_made next_left s d) (sym is) (sym are) in
    h ∙ (ap (λ l. made ++ transactions_of r l) same ∙ (ap (λ l. made ++ l) (one_more r u rest) ∙ (sym (append_assoc made (transactions_of r (u ∷ [])) (transactions_of r rest)) ∙ ap (λ l. l ++ transactions_of r rest) (sym adds))))

-- all updates are made
pub goes_over : (r : ℕ) (all : List Update) (made : List Updates) (left state : ℕ) (db : List Table) → left ≡ 0 → GoesOn r all made left state db → made ≡ transactions_of r all
goes_over r all made left state db none h = sym (append-nil made) ∙ (ap (λ n. made ++ transactions_of r (updates_made n state db)) (sym none) ∙ sym h)
