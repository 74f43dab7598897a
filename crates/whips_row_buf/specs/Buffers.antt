-- Rows that are read into a buffer.
use Rattle.std.specs.Prelude.{◌≡◌, ◌≢◌, ℕ, ◌≤◌, List, [], ◌∷◌, length}
use Rattle.std.specs.List.{AllByRecursion}
use Rattle.std.specs.Ordering.{match_ordering}
use Rattle.std.specs.declared.cmp.Ordering.TheVariants.{Greater}
use Rattle.whips_model.specs.Tuples.{Codes, Columns, codes_cmp, at_columns}

-- A buffer: the columns of its rows, its rows, and how many it can hold.
pub record Buffer : Type 0 where
  pub columns : Columns
  pub rows : List Codes
  pub room : ℕ

-- The rows with t put in the order of the keys, behind the rows with its own key.
abbrev pub put_behind : List ℕ → Codes → List Codes → List Codes
put_behind columns t [] = t ∷ []
put_behind columns t (u ∷ rows) = match_ordering (codes_cmp (at_columns columns u) (at_columns columns t)) (u ∷ put_behind columns t rows) (u ∷ put_behind columns t rows) (t ∷ u ∷ rows)

-- The rows are in the order of their keys; a key may come again.
abbrev pub IsOrdered : List ℕ → List Codes → Type 0
IsOrdered columns [] = Unit {0}
IsOrdered columns (t ∷ rows) = AllByRecursion (λ u. codes_cmp (at_columns columns t) (at_columns columns u) ≢ Greater) rows × IsOrdered columns rows

-- What a buffer keeps: each row has a code for each column, the rows are in the order of their keys, and there is room for them.
pub record IsBuffer (b : Buffer) : Type 0 where
  pub widths : AllByRecursion (λ t. length t ≡ length b.columns.kinds) b.rows
  pub ordered : IsOrdered b.columns.key b.rows
  pub within : length b.rows ≤ b.room
