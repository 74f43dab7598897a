-- A script as JSON data, and its canonical text.
use Rattle.std.specs.Prelude.{ℕ, ◌==◌, List, [], ◌∷◌, map, slice_get, slice_index_or, if◌then◌else◌}
use Rattle.serde_json.specs.Data.{Data, string}
use Rattle.serde_json.specs.Written.{compact_text}
use Rattle.whips_lists.specs.Lists.{map_with_place}
use Rattle.whips_flow.specs.declared.event.Event.{Event}
use Rattle.whips_setup.specs.declared.plan.Plan.{Plan}
use Rattle.whips_setup.specs.declared.plan.Plan.TheVariants.{Listed, Picked}
use Rattle.whips_facts.specs.Scripts.{Labels}
use Rattle.whips_reports.specs.Lines.{words, event_words}
use Rattle.whips_reading.specs.declared.place.Member.{Member}
use Rattle.whips_reading.specs.declared.place.Member.TheVariants as member
use Rattle.whips_reading.specs.Json.{Text}
use Rattle.whips_script_reading.specs.Script.{NamedScript, default_versions}
use Rattle.whips_script_writing.specs.Objects.{number_data, list_data, text_list, object_data}
use Rattle.whips_script_writing.specs.Relations.{relations_of, source_data}
use Rattle.whips_script_writing.specs.Views.{view_in}

-- An event: its words.
abbrev pub event_data : Labels → Event → Data
event_data l event = string (words (event_words l event))

-- A schedule lists events, or has a start and a number of steps.
abbrev pub picked_data : (start steps : ℕ) → Data
picked_data start steps = object_data ((member.Start, number_data start) ∷ (member.Steps, number_data steps) ∷ [])

abbrev pub schedule_data : Labels → Plan → Data
schedule_data l (Listed events) = object_data ((member.Events, list_data (map (event_data l) events)) ∷ [])
schedule_data l (Picked start steps) = picked_data start steps

-- How many versions stay readable is written where it isn't the default.
abbrev pub with_versions : ℕ → List (Member × Data) → List (Member × Data)
with_versions n ms = if n == default_versions then ms else (member.Versions, number_data n) ∷ ms

-- The source y and the view x of a script, with its name.
abbrev pub source_at : NamedScript → (y : ℕ) → Text → Data
source_at s y name = source_data s.labels s.relations (relations_of y s.script.setup.homes s.relations) name (slice_index_or s.script.work y [])

abbrev pub view_at : NamedScript → (x : ℕ) → Text → Data
view_at s x name = view_in s.labels s.relations name (slice_get s.script.setup.views x) (slice_index_or s.script.setup.slots x 0)

-- A script with every other member written, in the order of their bytes.
abbrev pub document_data : NamedScript → Data
document_data s = object_data (
    (member.Schedule, schedule_data s.labels s.plan)
    ∷ (member.Sessions, text_list s.labels.sessions)
    ∷ (member.Sources, list_data (map_with_place (source_at s) 0 s.labels.sources))
    ∷ with_versions s.script.setup.versions ((member.Views, list_data (map_with_place (view_at s) 0 s.labels.views)) ∷ []))

-- The canonical text of a script.
abbrev pub canonical : NamedScript → List ℕ
canonical s = compact_text (document_data s)
