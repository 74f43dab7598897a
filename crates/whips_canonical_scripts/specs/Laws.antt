-- The canonical text of a script is read as the same script.
use Rattle.std.specs.Prelude.{◌≡◌, ℕ, true, List, slice_get, slice_index_or, Ok}
use Rattle.std.specs.Str.{is_utf8}
use Rattle.serde_json.specs.Data.{Data}
use Rattle.whips_lists.specs.Lists.{map_with_place}
use Rattle.whips_facts.specs.Scripts.{Labels}
use Rattle.whips_relation_reading.specs.Relations.{RelationForm}
use Rattle.whips_script_reading.specs.Views.{Views}
use Rattle.whips_script_reading.specs.Script.{NamedScript, script_of}
use Rattle.whips_script_writing.specs.Objects.{list_data}
use Rattle.whips_script_writing.specs.Views.{view_in}
use Rattle.whips_script_writing.specs.Scripts.{canonical}

-- Views over these relations, each with its name and its slots.
abbrev pub views_data : Labels → List RelationForm → Views → Data
views_data l relations views = list_data (map_with_place (λ x name. view_in l relations name (slice_get views.views x) (slice_index_or views.slots x 0)) 0 views.names)

-- Where bytes are a script, its canonical text, if it is UTF-8, is read as the same script.
abbrev pub ScriptsAreReadAgain : Type 0
ScriptsAreReadAgain = (bytes : List ℕ) (s : NamedScript) → script_of bytes ≡ Ok s → is_utf8 (canonical s) ≡ true → script_of (canonical s) ≡ Ok s
