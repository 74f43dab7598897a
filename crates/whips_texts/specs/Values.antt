-- Values and their codes.
use Rattle.std.specs.Prelude.{ℕ, List, length, nat_le, Option, option_and_then}
use Rattle.std.specs.Option.{option_map}
use Rattle.serde_json.specs.Data.{Data}
use Rattle.serde_json.specs.Find.{as_str, as_number, as_u64}
use Rattle.whips_model.specs.declared.Kind.{Kind}
use Rattle.whips_model.specs.declared.Kind.TheVariants.{Number, Text as TextKind}
use Rattle.whips_reading.specs.declared.place.Code.TheVariants.{Value}
use Rattle.whips_reading.specs.Json.{Text, only}
use Rattle.whips_reading.specs.Places.{Place}
use Rattle.whips_reading.specs.Reading.{Read, there}
use Rattle.whips_texts.specs.Texts.{rank}

-- A number value has no sign, fraction or exponent, and is at most 999,999,999,999.
abbrev pub number_value : Data → Option ℕ
number_value d = only (λ n. nat_le n 999999999999) (option_and_then as_u64 (as_number d))

-- A text value has at most 64 bytes.
abbrev pub text_value : Data → Option Text
text_value d = only (λ t. nat_le (length t) 64) (as_str d)

-- The code of a value of this kind: the number itself, or the text's place among these texts.
abbrev pub value_in : List Text → Kind → Place → Data → Read ℕ
value_in texts Number place d = there (number_value d) Value place
value_in texts TextKind place d = there (option_map (rank texts) (text_value d)) Value place
