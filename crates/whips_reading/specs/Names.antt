-- Texts and names.
use Rattle.std.specs.Prelude.{ℕ, Bool, false, not, List, [], ◌∷◌, length, nat_le, nat_lt, suc, Option, Some, None, ◌&&◌, ◌||◌, ◌==◌, if◌then◌else◌, Ok}
use Rattle.std.specs.Option.{option_map}
use Rattle.std.specs.List.{list_all, list_any}
use Rattle.std.specs.Str.{bytes_eq}
use Rattle.serde_json.specs.Data.{Data}
use Rattle.serde_json.specs.Find.{as_str}
use Rattle.whips_reading.specs.declared.place.Code.TheVariants.{Shape, Name}
use Rattle.whips_reading.specs.Json.{Text}
use Rattle.whips_reading.specs.Places.{Place}
use Rattle.whips_reading.specs.Reading.{Read, ◌>>=◌, ◌>>◌, check, there}

-- A letter is A to Z or a to z.
abbrev pub is_letter : ℕ → Bool
is_letter c = (nat_le 65 c && nat_le c 90) || (nat_le 97 c && nat_le c 122)

-- A letter, a digit or an underscore.
abbrev pub is_name_byte : ℕ → Bool
is_name_byte c = is_letter c || (nat_le 48 c && nat_le c 57) || (c == 95)

-- A name has 1 to 32 of these, the first a letter.
abbrev pub is_name : Text → Bool
is_name [] = false
is_name (c ∷ cs) = is_letter c && nat_lt (length cs) 32 && list_all is_name_byte cs

-- Whether the text is one of these.
abbrev pub is_among : List Text → Text → Bool
is_among texts text = list_any (λ t. bytes_eq t text) texts

-- The place of the text among these names, from 0.
abbrev pub place_of : List Text → Text → Option ℕ
place_of [] text = None
place_of (name ∷ names) text = if bytes_eq name text then Some 0 else option_map suc (place_of names text)

-- What is a text.
abbrev pub text_in : Place → Data → Read Text
text_in place d = there (as_str d) Shape place

-- A name that isn't one of these.
abbrev pub fresh_name : List Text → Place → Data → Read Text
fresh_name taken place d = do
  text ← text_in place d
  check (is_name text && not (is_among taken text)) Name place
  Ok text

-- The place of the name among these.
abbrev pub named : List Text → Place → Data → Read ℕ
named names place d = do
  text ← text_in place d
  there (place_of names text) Name place
