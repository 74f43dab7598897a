-- The painted table: which transactions may be applied to the views, and which of them only together.
use Rattle.std.specs.Prelude.{ℕ, zero, suc, Bool, true, false, ◌&&◌, ◌||◌, ◌==◌, not, nat_lt, nat_le, List, [], ◌∷◌, ◌++◌, length, filter, find, map, Option, Some, None, if◌then◌else◌}
use Rattle.std.specs.List.{list_any, list_all}
use Rattle.whips_lists.specs.Lists.{changed_at}

-- ---- the table

-- the entry of a row for one view: black where the view isn't concerned, white where its list hasn't come, red where the list with that number covers the row; the painting algorithm 1997
pub data Colour : Type 0 where
  black : Colour
  white : Colour
  red : ℕ → Colour

-- a numbered transaction with one entry per view, in script order; the painting algorithm 1997, with source and place of its own
pub record Row : Type 0 where
  -- the integrator's number
  pub number : ℕ
  -- the source, and which of its transactions it is, from 1
  pub source : ℕ
  pub place : ℕ
  pub entries : List Colour

-- the rows that have come and haven't left, oldest first, and the number of the last row that came; the painting algorithm 1997
pub record PaintedTable : Type 0 where
  pub rows : List Row
  pub last_announced : ℕ

-- the table with one row more, which is then the last that came
abbrev pub with_row : Row → PaintedTable → PaintedTable
with_row r t = record { rows = t.rows ++ r ∷ []; last_announced = r.number }

-- ---- painting

-- a white entry becomes red with the number of the list that covers it
abbrev pub reddened_entry : ℕ → Colour → Colour
reddened_entry j black = black
reddened_entry j white = red j
reddened_entry j (red k) = red k

-- list j of view x covers a row up to j
abbrev pub painted_row : ℕ → ℕ → Row → Row
painted_row x j r = record r { entries = if nat_le r.number j then changed_at x (reddened_entry j) r.entries else r.entries }

-- the rows after list j of view x: each white entry of x in a row up to j is red; the painting algorithm 1997
abbrev pub painted_rows : ℕ → List Row → ℕ → List Row
painted_rows x rows j = map (painted_row x j) rows

-- ---- which rows go together

abbrev pub is_concerned : Option Colour → Bool
is_concerned None = false
is_concerned (Some black) = false
is_concerned (Some white) = true
is_concerned (Some (red j)) = true

-- whether a row numbered n, by its entry for a view, needs the row numbered q that concerns the same view: a red one needs all rows that its list covers, a white one all rows up to itself; own, after the painting algorithm 1997
abbrev pub entry_needs : ℕ → Colour → ℕ → Bool
entry_needs n black q = false
entry_needs n white q = nat_le q n
entry_needs n (red j) q = nat_le q j

-- whether some entry of a row numbered n needs the row numbered q with entries ds, view by view
abbrev pub some_entry_needs : ℕ → List Colour → ℕ → List Colour → Bool
some_entry_needs n [] q ds = false
some_entry_needs n (c ∷ cs) q [] = false
some_entry_needs n (c ∷ cs) q (d ∷ ds) = (entry_needs n c q && is_concerned (Some d)) || some_entry_needs n cs q ds

-- row r can't be applied without row q: an entry needs it, or it is an earlier row of r's source; own
abbrev pub needs : Row → Row → Bool
needs r q = some_entry_needs r.number r.entries q.number q.entries || (r.source == q.source && nat_lt q.number r.number)

-- ---- the closure

abbrev pub has_number : List ℕ → ℕ → Bool
has_number numbers n = list_any (λ m. m == n) numbers

-- row q has one of the numbers, or a row with one of them needs it
abbrev pub is_in_or_needed : List Row → List ℕ → Row → Bool
is_in_or_needed rows numbers q = has_number numbers q.number || list_any (λ r. has_number numbers r.number && needs r q) rows

-- the numbers of these rows and of the rows that they need
abbrev pub with_needed : List Row → List ℕ → List ℕ
with_needed rows numbers = map (λ q. q.number) (filter (is_in_or_needed rows numbers) rows)

abbrev pub with_needed_again : ℕ → List Row → List ℕ → List ℕ
with_needed_again zero rows numbers = numbers
with_needed_again (suc n) rows numbers = with_needed_again n rows (with_needed rows numbers)

-- the closure of row i: the least set of the table's rows that has row i and, with each of its rows, all rows that this one needs; own. As many turns as there are rows reach it
abbrev pub closure : List Row → ℕ → List ℕ
closure rows i = with_needed_again (length rows) rows (i ∷ [])

abbrev pub rows_with : List ℕ → List Row → List Row
rows_with numbers rows = filter (λ r. has_number numbers r.number) rows

abbrev pub rows_without : List ℕ → List Row → List Row
rows_without numbers rows = filter (λ r. not (has_number numbers r.number)) rows

-- ---- readiness

abbrev pub is_white : Colour → Bool
is_white black = false
is_white white = true
is_white (red j) = false

-- some concerned view's list hasn't come for the row
abbrev pub is_waiting : Row → Bool
is_waiting r = list_any is_white r.entries

-- no row with one of the numbers waits for a list
abbrev pub none_waiting : List Row → List ℕ → Bool
none_waiting rows numbers = list_all (λ q. not (has_number numbers q.number && is_waiting q)) rows

-- no row of the closure of r waits for a list, so that the closure may be applied; own
abbrev pub is_ready : List Row → Row → Bool
is_ready rows r = none_waiting rows (closure rows r.number)

-- the lowest ready row of the table
abbrev pub lowest_ready : List Row → Option Row
lowest_ready rows = find (is_ready rows) rows
