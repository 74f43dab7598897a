-- The painted table as it is seen by its callers.
use Rattle.std.specs.Prelude.{◌≡◌, ℕ, ◌<◌, ◌≤◌, ◌==◌, Bool, false, List, length, map, Option, Some, None, if◌then◌else◌}
use Rattle.std.specs.List.{All, AllPairs}
use Rattle.std.specs.Option.{option_map}
use Rattle.whips_lists.specs.Lists.{places_from}
use Rattle.whips_flow.specs.Painted.{Colour, black, white, red, Row, PaintedTable, has_number, closure, rows_with, rows_without, lowest_ready}

-- a painted table over a number of views
pub record ViewTable : Type 0 where
  pub views : ℕ
  pub table : PaintedTable

abbrev pub table_of : ℕ → List Row → ℕ → ViewTable
table_of views rows last = record { views = views; table = record { rows = rows; last_announced = last } }

-- the table with these rows
abbrev pub with_rows : ViewTable → List Row → ViewTable
with_rows t rows = record t { table = record (t.table) { rows = rows } }

-- ---- a new row

-- one entry per view: white where the view is concerned, black elsewhere
abbrev pub new_entries : ℕ → List ℕ → List Colour
new_entries views concerned = map (λ x. if has_number concerned x then white else black) (places_from 0 views)

-- the row of a transaction that has just come; the table isn't told its place in its source, for which 0 stands
abbrev pub new_row : ℕ → ℕ → ℕ → List ℕ → Row
new_row views number source concerned = record { number = number; source = source; place = 0; entries = new_entries views concerned }

-- the row of a transaction that has just come, with its place in its source
abbrev pub placed_row : ℕ → ℕ → ℕ → ℕ → List ℕ → Row
placed_row views number source place concerned = record (new_row views number source concerned) { place = place }

-- whether an entry is red with this number
abbrev pub is_red : ℕ → Option Colour → Bool
is_red j None = false
is_red j (Some black) = false
is_red j (Some white) = false
is_red j (Some (red k)) = k == j

-- ---- what each table keeps

-- the rows stand in order of number, none above the last that came, with one entry per view
pub record IsInOrder (t : ViewTable) : Type 0 where
  pub rising : AllPairs (λ r q. r.number < q.number) t.table.rows
  pub announced : All (λ r. r.number ≤ t.table.last_announced) t.table.rows
  pub wide : All (λ r. length r.entries ≡ t.views) t.table.rows

-- ---- what is taken

-- the numbers of the rows that go together with the lowest ready row, where one is ready
abbrev pub ready_numbers : List Row → Option (List ℕ)
ready_numbers rows = option_map (λ r. closure rows r.number) (lowest_ready rows)

-- these rows themselves
abbrev pub ready_rows : List Row → Option (List Row)
ready_rows rows = option_map (λ numbers. rows_with numbers rows) (ready_numbers rows)

-- the rows that stay when they are taken
abbrev pub rows_left : Option (List ℕ) → List Row → List Row
rows_left None rows = rows
rows_left (Some numbers) rows = rows_without numbers rows
