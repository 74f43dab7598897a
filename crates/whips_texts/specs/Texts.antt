-- Texts in the order of their bytes, and their codes.
use Rattle.std.specs.Prelude.{ℕ, Bool, List, length}
use Rattle.std.specs.List.{filter}
use Rattle.std.specs.List.Sorted.{IsStrictlySortedBy}
use Rattle.std.specs.BTreeSet.{insert_key}
use Rattle.std.specs.Ordering.{nat_cmp, is_lt}
use Rattle.std.specs.Cmp.Lexicographic.{slice_cmp}
use Rattle.std.specs.declared.cmp.Ordering.{Ordering}
use Rattle.whips_reading.specs.Json.{Text}

-- The order of texts: by their bytes.
abbrev pub text_cmp : Text → Text → Ordering
text_cmp = slice_cmp nat_cmp

-- Whether the first text is before the second.
abbrev pub is_before : Text → Text → Bool
is_before u t = is_lt (text_cmp u t)

-- The texts are in order, and none stands twice.
abbrev pub IsInOrder : List Text → Type 0
IsInOrder = IsStrictlySortedBy text_cmp

-- The code of a text: the number of these texts that are before it.
abbrev pub rank : List Text → Text → ℕ
rank texts t = length (filter (λ u. is_before u t) texts)

-- The texts with one more, at its place in the order, unless it is there.
abbrev pub with_text : List Text → Text → List Text
with_text = insert_key text_cmp
