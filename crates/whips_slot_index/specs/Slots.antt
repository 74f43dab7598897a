-- Slots as they stand in memory.
use Rattle.std.specs.Prelude.{ℕ, ◌≤◌, List, [], ◌∷◌, map, length, Option, Some, None}
use Rattle.std.specs.List.{AllByRecursion}
use Rattle.whips_model.specs.Tuples.{Codes}
use Rattle.whips_vnl.specs.Records.{visible, steps_or_none}
use Rattle.whips_vnl.specs.declared.record.Vstep.{Vstep}
use Rattle.whips_store.specs.Versions.{row_seen}

-- the steps of each slot's record
abbrev pub all_steps : List (Option (List Vstep)) → List (List Vstep)
all_steps records = map steps_or_none records

-- no record has more than n steps
abbrev pub AreKept : ℕ → List (Option (List Vstep)) → Type 0
AreKept n records = AllByRecursion (λ r. length (steps_or_none r) ≤ n) records

-- the first of these, where it is there, and else the second
abbrev pub first_there : Option Codes → Option Codes → Option Codes
first_there None other = other
first_there (Some t) other = Some t

-- the row that the record shows at the first of these versions at which it shows one
abbrev pub row_among : ℕ → List Vstep → List ℕ → Option Codes
row_among n steps [] = None
row_among n steps (v ∷ versions) = first_there (row_seen (visible n v steps)) (row_among n steps versions)

-- the newest row of the record
abbrev pub newest_row : List Vstep → Option Codes
newest_row [] = None
newest_row (s ∷ steps) = first_there s.row (newest_row steps)
