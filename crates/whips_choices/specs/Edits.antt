-- Rows put into rows that are in the order of their keys.
use Rattle.std.specs.Prelude.{ℕ, List, [], ◌∷◌, cond, is_some}
use Rattle.whips_model.specs.Tuples.{Codes, at_columns, row_at, put_row}

-- The rows, and each new one whose key isn't there.
abbrev pub put_missing : List ℕ → List Codes → List Codes → List Codes
put_missing columns [] rows = rows
put_missing columns (r ∷ new) rows = put_missing columns new (cond (is_some (row_at columns (at_columns columns r) rows)) rows (put_row columns r rows))

-- The rows with new ones put one by one where their keys belong.
abbrev pub put_rows : List ℕ → List Codes → List Codes → List Codes
put_rows columns [] rows = rows
put_rows columns (r ∷ new) rows = put_rows columns new (put_row columns r rows)
