-- Tuples, keys, and lists of tuples in the order of their keys.
use Rattle.std.specs.Prelude.{◌≡◌, ℕ, ◌<◌, Bool, List, [], ◌∷◌, length, map, filter, find, not, slice_index, Option}
use Rattle.std.specs.List.{AllByRecursion}
use Rattle.std.specs.declared.cmp.Ordering.{Ordering}
use Rattle.std.specs.declared.cmp.Ordering.TheVariants.{Less}
use Rattle.std.specs.Ordering.{nat_cmp, match_ordering, is_eq}
use Rattle.std.specs.Cmp.Lexicographic.{slice_cmp}
use Rattle.whips_model.specs.declared.Kind.{Kind}

-- The codes of a tuple, or of a key.
abbrev pub Codes : Type 0
Codes = List ℕ

-- Keys are ordered by the first code that differs.
abbrev pub codes_cmp : Codes → Codes → Ordering
codes_cmp = slice_cmp nat_cmp

-- The columns of a relation: their kinds, and which of them are its key.
pub record Columns : Type 0 where
  pub kinds : List Kind
  pub key : List ℕ

-- Each of these is one of the columns.
abbrev pub AreColumns : List Kind → List ℕ → Type 0
AreColumns kinds columns = AllByRecursion (λ c. c < length kinds) columns

-- The codes of a tuple at these columns. At the key columns they are its key.
abbrev pub at_columns : List ℕ → Codes → Codes
at_columns columns t = map (λ c. slice_index t c) columns

-- Whether the tuple has the key k, where these columns are the key.
abbrev pub has_key : List ℕ → Codes → Codes → Bool
has_key columns k t = is_eq (codes_cmp (at_columns columns t) k)

-- The row with the key k.
abbrev pub row_at : List ℕ → Codes → List Codes → Option Codes
row_at columns k rows = find (has_key columns k) rows

-- The rows with t put where its key belongs, in the place of a row with that key.
abbrev pub put_row : List ℕ → Codes → List Codes → List Codes
put_row columns t [] = t ∷ []
put_row columns t (u ∷ rows) = match_ordering (codes_cmp (at_columns columns t) (at_columns columns u)) (t ∷ u ∷ rows) (t ∷ rows) (u ∷ put_row columns t rows)

-- The rows that haven't the key k.
abbrev pub without_key : List ℕ → Codes → List Codes → List Codes
without_key columns k rows = filter (λ t. not (has_key columns k t)) rows

-- The key of t is below that of u.
abbrev pub IsBefore : List ℕ → Codes → Codes → Type 0
IsBefore columns t u = codes_cmp (at_columns columns t) (at_columns columns u) ≡ Less

-- The rows are in the order of their keys, and no key stands twice.
abbrev pub IsKeyed : List ℕ → List Codes → Type 0
IsKeyed columns [] = Unit {0}
IsKeyed columns (t ∷ rows) = AllByRecursion (IsBefore columns t) rows × IsKeyed columns rows
