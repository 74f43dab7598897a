-- Looking into a JSON document, as `serde_json` reads it.
use Rattle.std.specs.Prelude.{ℕ, ◌&&◌, Bool, true, false, List, [], ◌∷◌, Option, Some, None, if◌then◌else◌}
use Rattle.std.specs.Str.{bytes_eq}
use Rattle.serde_json.specs.Data.{Data, Items, no_items, item, Members, no_members, member}
use Rattle.serde_json.specs.Find.{as_object, as_str}

-- The bytes of a text.
abbrev pub Text : Type 0
Text = List ℕ

-- The value, where it passes the test.
abbrev pub only : {A : Type 0} → (A → Bool) → Option A → Option A
only test None = None
only test (Some x) = if test x then Some x else None

-- The elements of a list.
abbrev pub list_of : Items → List Data
list_of no_items = []
list_of (item d ds) = d ∷ list_of ds

-- Whether each member's name passes the test.
abbrev pub all_names : (Text → Bool) → Members → Bool
all_names test no_members = true
all_names test (member name d ms) = test name && all_names test ms

abbrev pub all_names_in : (Text → Bool) → Option Members → Bool
all_names_in test None = false
all_names_in test (Some ms) = all_names test ms

-- Whether the value is an object all of whose members' names pass the test.
abbrev pub is_object_of : (Text → Bool) → Data → Bool
is_object_of test d = all_names_in test (as_object d)

-- Whether the value is this text.
abbrev pub is_same_text : Text → Option Text → Bool
is_same_text text None = false
is_same_text text (Some s) = bytes_eq s text

abbrev pub is_text : Text → Data → Bool
is_text text d = is_same_text text (as_str d)
