-- Worked slots of pairs, of which three versions are kept.
use Rattle.std.specs.Prelude.{List, [], ◌∷◌, Some, None}
use Rattle.whips_vnl.specs.declared.record.Op.TheVariants.{Added, Replaced, Removed}
use Rattle.whips_vnl.specs.declared.record.Vstep.{Vstep}

-- The pair (1, 5) came at version 1 and went at version 2.
abbrev pub gone_row : List Vstep
gone_row = record { vn = 2; op = Removed; row = None } ∷ record { vn = 1; op = Added; row = Some (1 ∷ 5 ∷ []) } ∷ []

-- The pair (2, 5) came at version 1, and (2, 9) in its place at version 2.
abbrev pub replaced_row : List Vstep
replaced_row = record { vn = 2; op = Replaced; row = Some (2 ∷ 9 ∷ []) } ∷ record { vn = 1; op = Added; row = Some (2 ∷ 5 ∷ []) } ∷ []

-- These in two slots, and two blank slots.
abbrev pub four_slots : List (List Vstep)
four_slots = gone_row ∷ replaced_row ∷ [] ∷ [] ∷ []
