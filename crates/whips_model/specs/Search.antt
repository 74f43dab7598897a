-- What a search by key finds in rows that are in the order of their keys.
use Rattle.std.specs.Prelude.{◌≡◌, ℕ, ◌<◌, ◌≤◌, take, drop, slice_index_or, List, [], length, Some, None, insert, remove}
use Rattle.std.specs.List.{AllByRecursion}
use Rattle.std.specs.declared.cmp.Ordering.TheVariants.{Less, Equal, Greater}
use Rattle.whips_model.specs.Tuples.{Codes, codes_cmp, at_columns, row_at, put_row, without_key}

-- The row at place i has the key k.
pub record IsRowAt (columns : List ℕ) (rows : List Codes) (k : Codes) (i : ℕ) : Type 0 where
  pub in_range : i < length rows
  pub is_there : codes_cmp (at_columns columns (slice_index_or rows i [])) k ≡ Equal

-- A row with the key k would go to place i.
pub record IsGapFor (columns : List ℕ) (rows : List Codes) (k : Codes) (i : ℕ) : Type 0 where
  pub in_range : i ≤ length rows
  pub before : AllByRecursion (λ t. codes_cmp (at_columns columns t) k ≡ Less) (take i rows)
  pub after : AllByRecursion (λ t. codes_cmp (at_columns columns t) k ≡ Greater) (drop i rows)

-- A search for the key k ends at place i, and the row there has it.
pub record Finds (columns : List ℕ) (rows : List Codes) (k : Codes) (i : ℕ) : Type 0 where
  pub in_range : i < length rows
  pub row : (d : Codes) → row_at columns k rows ≡ Some (slice_index_or rows i d)
  pub removed : remove rows i ≡ without_key columns k rows

-- A search for the key k ends at place i, which is where a row with that key would go; none has it.
pub record Misses (columns : List ℕ) (rows : List Codes) (k : Codes) (i : ℕ) : Type 0 where
  pub in_range : i ≤ length rows
  pub none : row_at columns k rows ≡ None
  pub same : without_key columns k rows ≡ rows
  pub inserted : (t : Codes) → at_columns columns t ≡ k → insert rows i t ≡ put_row columns t rows
