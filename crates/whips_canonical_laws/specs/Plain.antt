-- JSON data that is plain: its numbers are whole and below 2 ^ 64, and the members of each object stand in the order of their bytes.
use Rattle.std.specs.Prelude.{◌≡◌, ◌^◌, ◌<◌, ◌≤◌, Some, ⊤}
use Rattle.serde_json.specs.Data.{Num, unsigned, negative, float, Data, null, boolean, number, string, array, object, Items, no_items, item, Members, no_members, member, put, depth}
use Rattle.serde_json.specs.Read.{read, max_depth}
use Rattle.serde_json.specs.Written.{compact_text}

abbrev pub IsSmall : Num → Type 0
IsSmall (unsigned n) = n < 2 ^ 64
IsSmall (negative z) = ⊥
IsSmall (float x) = ⊥

-- The members of the second behind those of the first.
abbrev pub joined : Members → Members → Members
joined no_members ms = ms
joined (member k d before) ms = member k d (joined before ms)

-- Each of these members, put to the ones before it, stands behind them.
abbrev pub InOrder : Members → Members → Type 0
InOrder before no_members = ⊤
InOrder before (member k d ms) = (put k d before ≡ joined before (member k d no_members)) × InOrder (joined before (member k d no_members)) ms

abbrev mutual
  pub IsPlain : Data → Type 0
  IsPlain null = ⊤
  IsPlain (boolean b) = ⊤
  IsPlain (number n) = IsSmall n
  IsPlain (string s) = ⊤
  IsPlain (array ds) = ArePlain ds
  IsPlain (object ms) = ArePlainMembers ms × InOrder no_members ms

  pub ArePlain : Items → Type 0
  ArePlain no_items = ⊤
  ArePlain (item d ds) = IsPlain d × ArePlain ds

  pub ArePlainMembers : Members → Type 0
  ArePlainMembers no_members = ⊤
  ArePlainMembers (member k d ms) = IsPlain d × ArePlainMembers ms

-- The compact text of plain data that isn't nested too deep is read as that data.
abbrev pub CompactTextsAreRead : Type 0
CompactTextsAreRead = (d : Data) → IsPlain d → depth d ≤ max_depth → read (compact_text d) ≡ Some d
