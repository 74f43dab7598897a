-- The keys of a view's rows.
use Rattle.std.specs.Prelude.{◌≡◌, ℕ, List, [], ◌∷◌, ◌++◌, length}
use Rattle.whips_model.specs.Tuples.{Codes, at_columns, IsKeyed}
use Rattle.whips_model.specs.Views.{ViewData, Choice, out_row, rows_of}

-- The keys of the chosen tuples, one after another, where the key columns of each table are given.
abbrev pub joined_key : List (List ℕ) → Choice → Codes
joined_key [] c = []
joined_key (k ∷ ks) [] = []
joined_key (k ∷ ks) (t ∷ c) = at_columns k t ++ joined_key ks c

-- Each table is in the order of its key.
abbrev pub AreKeyed : List (List ℕ) → List (List Codes) → Type 0
AreKeyed [] tables = Unit {0}
AreKeyed (k ∷ ks) [] = Unit {0}
AreKeyed (k ∷ ks) (rows ∷ tables) = IsKeyed k rows × AreKeyed ks tables

-- The view's rows have the keys of the chosen tuples at these columns.
abbrev pub HasKeysAt : ViewData → List (List ℕ) → List ℕ → Type 0
HasKeysAt view keys cols = (c : Choice) → length c ≡ length keys → at_columns cols (out_row view c) ≡ joined_key keys c

-- The rows of a view come in the order of their keys, no key twice.
abbrev pub ValueIsKeyed : Type 0
ValueIsKeyed = (view : ViewData) (keys : List (List ℕ)) (cols : List ℕ) (tables : List (List Codes)) → length tables ≡ length keys → AreKeyed keys tables → HasKeysAt view keys cols → IsKeyed cols (rows_of view tables)
