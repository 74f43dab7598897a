-- The sessions of a script.
use Rattle.std.specs.Prelude.{not, List, [], ◌∷◌, ◌++◌, codes, Ok}
use Rattle.std.specs.Str.{bytes_eq}
use Rattle.serde_json.specs.Data.{Data}
use Rattle.whips_reading.specs.declared.place.Code.TheVariants.{Name}
use Rattle.whips_reading.specs.declared.place.Member.TheVariants as member
use Rattle.whips_reading.specs.Json.{Text}
use Rattle.whips_reading.specs.Places.{Place}
use Rattle.whips_reading.specs.Reading.{Read, ◌>>=◌, ◌>>◌, check, within_or, elements, in_turn}
use Rattle.whips_reading.specs.Names.{fresh_name}

-- One more session: a new name that isn't `end`.
abbrev pub session_added : List Text → Place → Data → Read (List Text)
session_added sessions place d = do
  name ← fresh_name sessions place d
  check (not (bytes_eq name (codes "end"))) Name place
  Ok (sessions ++ name ∷ [])

-- Up to 8 sessions.
abbrev pub sessions_in : Place → Data → Read (List Text)
sessions_in place d = elements 0 8 place d >>= in_turn session_added place 0 []

-- The sessions of a document, of which there are none where the member is left out.
abbrev pub sessions_of : Place → Data → Read (List Text)
sessions_of place d = within_or [] member.Sessions sessions_in place d
