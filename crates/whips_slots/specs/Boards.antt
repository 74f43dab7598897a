-- The board of a setup.
use Rattle.std.specs.Prelude.{ℕ, ◌<◌, ◌^◌, List, ◌∷◌, ◌++◌, replicate}
use Rattle.whips_model.specs.Tuples.{Codes}
use Rattle.whips_setup.specs.Setups.{SetupData}
use Rattle.whips_setup.specs.Refusals.{IsSetup}
use Rattle.whips_slot_words.specs.Words.{layout}
use Rattle.whips_slot_words.specs.Slots.{board_size}
use Rattle.whips_slot_words.specs.StoreLaws.{shape_of, first_values}

-- the words of a setup's board before any store
abbrev pub first_words : SetupData → List ℕ
first_words setup = layout (shape_of setup) (first_values setup.initial setup.views setup.slots)

-- a slot whose last entry has this row, added at version 0, where the other entries have so many words
abbrev pub row_slot : ℕ → Codes → List ℕ
row_slot zeros t = replicate zeros 0 ++ 1 ∷ t

-- Each place of a setup's board is a number of 32 bits.
abbrev pub BoardsAreSmall : Type 0
BoardsAreSmall = (setup : SetupData) → IsSetup setup → board_size (shape_of setup) < 2 ^ 32
