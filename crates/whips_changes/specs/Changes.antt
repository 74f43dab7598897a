-- The changes from one value of a view to another, and the keys that several values have together.
use Rattle.std.specs.Prelude.{ℕ, ◌≤◌, List, [], ◌∷◌, ◌++◌, length, map, fold, reverse, Option, Some, None, if◌then◌else◌}
use Rattle.std.specs.List.{filter_map}
use Rattle.std.specs.Ordering.{is_eq}
use Rattle.whips_model.specs.Tuples.{Codes, codes_cmp, at_columns, put_row, row_at}
use Rattle.whips_rel.specs.declared.update.Change.{Change}
use Rattle.whips_rel.specs.declared.update.Change.TheVariants.{Add, Replace, Remove}

-- the rows of the values together, one for each key, in the order of their keys
abbrev pub union_rows : List ℕ → List (List Codes) → List Codes
union_rows columns values = fold (fold (λ rows t. put_row columns t rows)) [] values

-- the change of the row with the key k from what it was to what it is, where it differs
abbrev pub change_of : Codes → Option Codes → Option Codes → Option Change
change_of k None None = None
change_of k None (Some t) = Some (Add t)
change_of k (Some s) None = Some (Remove k)
change_of k (Some s) (Some t) = if is_eq (codes_cmp s t) then None else Some (Replace t)

abbrev pub change_at : List ℕ → List Codes → List Codes → Codes → Option Change
change_at columns before after k = change_of k (row_at columns k before) (row_at columns k after)

-- the net changes from one value to another: one for each key whose row differs, in the order of the keys; after 2VNL 1997, where a transaction's changes of one tuple become one
abbrev pub net_changes : (columns : List ℕ) (before after : List Codes) → List Change
net_changes columns before after = filter_map (change_at columns before after) (map (at_columns columns) (union_rows columns (after ∷ before ∷ [])))

-- the number of keys that the values, oldest first, have together, a common key counted once; own
abbrev pub need : List ℕ → List (List Codes) → ℕ
need columns values = length (union_rows columns (reverse values))

-- there are at most as many changes between two values as keys of both and any older ones together
abbrev pub ChangesWithinNeed : Type 0
ChangesWithinNeed = (columns : List ℕ) (older : List (List Codes)) (before after : List Codes) → length (net_changes columns before after) ≤ need columns (older ++ before ∷ after ∷ [])
