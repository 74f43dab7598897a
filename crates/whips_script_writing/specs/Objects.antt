-- Objects and lists as JSON data.
use Rattle.std.specs.Prelude.{ℕ, List, [], ◌∷◌, map}
use Rattle.serde_json.specs.Data.{Data, number, unsigned, string, array, object, Members, no_members, member}
use Rattle.std.specs.List.{flat_map}
use Rattle.serde_json.specs.View.{items_of}
use Rattle.serde_json.specs.Written.{compact_text}
use Rattle.whips_reading.specs.declared.place.Member.{Member}
use Rattle.whips_reading.specs.Json.{Text}
use Rattle.whips_reading.specs.Places.{member_name}

-- A number.
abbrev pub number_data : ℕ → Data
number_data n = number (unsigned n)

-- A list of these.
abbrev pub list_data : List Data → Data
list_data ds = array (items_of ds)

-- A list of texts.
abbrev pub text_list : List Text → Data
text_list texts = list_data (map string texts)

-- An object with these members, in this order.
abbrev pub members_data : List (Member × Data) → Members
members_data [] = no_members
members_data ((m, d) ∷ ms) = member (member_name m) d (members_data ms)

abbrev pub object_data : List (Member × Data) → Data
object_data ms = object (members_data ms)

-- The text of a list's elements behind the first, each behind a comma.
abbrev pub behind_commas : List Data → List ℕ
behind_commas ds = flat_map (λ d. 44 ∷ compact_text d) ds
