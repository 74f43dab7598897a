-- Worked examples of made updates, computed outside the program.
use Rattle.std.specs.Prelude.{List, [], ◌∷◌}
use Rattle.whips_rel.specs.declared.update.Update.{Update}
use Rattle.whips_rel.specs.declared.update.Update.TheVariants.{Insert, Delete}

-- one update by a picker that begins at 0
abbrev pub one_order : List Update
one_order = Insert 0 (16 ∷ 12 ∷ 69 ∷ []) ∷ []

-- eight updates by a picker that begins at 29, two of which take out what an earlier one brought
abbrev pub eight_updates : List Update
eight_updates =
    Insert 1 (18 ∷ 3 ∷ [])
    ∷ Insert 0 (43 ∷ 16 ∷ 99 ∷ [])
    ∷ Insert 0 (49 ∷ 16 ∷ 71 ∷ [])
    ∷ Insert 0 (27 ∷ 2 ∷ 71 ∷ [])
    ∷ Delete 1 (18 ∷ 3 ∷ [])
    ∷ Insert 0 (63 ∷ 31 ∷ 18 ∷ [])
    ∷ Insert 0 (9 ∷ 5 ∷ 25 ∷ [])
    ∷ Delete 0 (49 ∷ 16 ∷ 71 ∷ [])
    ∷ []
