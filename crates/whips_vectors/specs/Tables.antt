-- Small painted tables.
use Rattle.std.specs.Prelude.{ℕ, List, [], ◌∷◌}
use Rattle.whips_flow.specs.Painted.{Row, Colour, white, red, black}

-- the first transaction of its source, with one entry
abbrev pub row_of_one : (number source : ℕ) → Colour → Row
row_of_one number source entry = record { number = number; source = source; place = 1; entries = entry ∷ [] }

-- three rows of three sources: the view's lists haven't come, or don't concern the second
abbrev pub waiting_rows : List Row
waiting_rows = row_of_one 1 0 white ∷ row_of_one 2 1 black ∷ row_of_one 3 2 white ∷ []

-- a list covers all three rows
abbrev pub covered_rows : List Row
covered_rows = row_of_one 1 0 (red 3) ∷ row_of_one 2 1 (red 3) ∷ row_of_one 3 2 (red 3) ∷ []
