-- How many known bytes several reads took.
use Rattle.std.specs.Prelude.{◌≡◌, ℕ, ◌≤◌, List, length, Option}
use Rattle.std.specs.Io.KnownBytes.{Consumes}

-- the known bytes lost exactly `count` bytes from their front
abbrev pub ConsumesExactly : ℕ → Option (List ℕ) → Option (List ℕ) → Type 0
ConsumesExactly count old new = (bytes : List ℕ) × (length bytes ≡ count) × Consumes old new bytes

-- the known bytes lost at most `count` bytes from their front
abbrev pub ConsumesAtMost : ℕ → Option (List ℕ) → Option (List ℕ) → Type 0
ConsumesAtMost count old new = (bytes : List ℕ) × (length bytes ≤ count) × Consumes old new bytes
