-- Which updates and transactions concern a view.
use Rattle.std.specs.Prelude.{ℕ, suc, ◌==◌, ◌&&◌, ◌||◌, Bool, true, false, cond, List, [], ◌∷◌, slice_index}
use Rattle.std.specs.List.{list_all, list_any}
use Rattle.whips_model.specs.declared.ColRef.{ColRef}
use Rattle.whips_model.specs.declared.Cond.{Cond}
use Rattle.whips_model.specs.Tuples.{Codes}
use Rattle.whips_model.specs.Views.{ViewData, compares}
use Rattle.whips_rel.specs.declared.update.Update.{Update}
use Rattle.whips_rel.specs.Updates.{relation_of, tuple_of}
use Rattle.whips_states.specs.States.{Updates}

-- Whether a tuple of this part meets an equality, where both its columns are in the part.
abbrev pub meets_equality : ℕ → Codes → (ColRef × ColRef) → Bool
meets_equality part t pair = cond ((pair.0.part == part) && (pair.1.part == part)) (slice_index t pair.0.col == slice_index t pair.1.col) true

-- Whether a tuple of this part meets a condition, where its column is in the part.
abbrev pub meets_condition : ℕ → Codes → Cond → Bool
meets_condition part t c = cond (c.at.part == part) (compares c.cmp (slice_index t c.at.col) c.code) true

-- Whether a tuple of this part meets the view's conditions on the part and the equalities within it.
abbrev pub meets_part : ViewData → ℕ → Codes → Bool
meets_part view part t = list_all (meets_equality part t) view.equal && list_all (meets_condition part t) view.conds

-- Whether the tuple, as one of relation r, meets one of the parts from this one on.
abbrev pub meets_from : ViewData → ℕ → List ℕ → ℕ → Codes → Bool
meets_from view part [] r t = false
meets_from view part (s ∷ relations) r t = ((s == r) && meets_part view part t) || meets_from view (suc part) relations r t

-- Whether the update concerns the view: its relation is one of the view's, and its tuple meets the view's conditions on that relation and the equalities within it.
abbrev pub concerns_update : ViewData → Update → Bool
concerns_update view u = meets_from view 0 view.relations (relation_of u) (tuple_of u)

-- Whether the transaction concerns the view: one of its updates does.
abbrev pub concerns : ViewData → Updates → Bool
concerns view t = list_any (concerns_update view) t
