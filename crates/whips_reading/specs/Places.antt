-- Places in a document, and refusals.
use Rattle.std.specs.Prelude.{ℕ, List, [], ◌∷◌, ◌++◌, codes, flat_map}
use Rattle.std.specs.Fmt.{decimal}
use Rattle.whips_reading.specs.declared.place.Code.{Code}
use Rattle.whips_reading.specs.declared.place.Code.TheVariants as code
use Rattle.whips_reading.specs.declared.place.Member.{Member}
use Rattle.whips_reading.specs.declared.place.Member.TheVariants as member
use Rattle.whips_reading.specs.declared.place.Step.{Step}
use Rattle.whips_reading.specs.declared.place.Step.TheVariants as step
use Rattle.whips_reading.specs.declared.place.Path.{Path, fold-Path}
use Rattle.whips_reading.specs.declared.place.Path.TheOpen.{Path-F}

-- The way from the document to one of its parts.
abbrev pub Place : Type 0
Place = List Step

-- The one refusal of a document.
pub record Refusal : Type 0 where
  pub code : Code
  pub place : Place

-- The word of a code.
abbrev pub code_word : Code → List ℕ
code_word code.Syntax = codes "Syntax"
code_word code.Shape = codes "Shape"
code_word code.Limit = codes "Limit"
code_word code.Name = codes "Name"
code_word code.Value = codes "Value"
code_word code.Key = codes "Key"
code_word code.Present = codes "Present"
code_word code.Absent = codes "Absent"
code_word code.BadEvent = codes "BadEvent"
code_word code.Unbuilt = codes "Unbuilt"

-- The name of a member in the document.
abbrev pub member_name : Member → List ℕ
member_name member.Versions = codes "versions"
member_name member.Sources = codes "sources"
member_name member.Views = codes "views"
member_name member.Sessions = codes "sessions"
member_name member.Schedule = codes "schedule"
member_name member.Name = codes "name"
member_name member.Relations = codes "relations"
member_name member.Updates = codes "updates"
member_name member.Columns = codes "columns"
member_name member.Key = codes "key"
member_name member.Rows = codes "rows"
member_name member.Equal = codes "equal"
member_name member.Where = codes "where"
member_name member.Out = codes "out"
member_name member.Slots = codes "slots"
member_name member.Events = codes "events"
member_name member.Start = codes "start"
member_name member.Steps = codes "steps"

-- The place of a member of the object at this place.
abbrev pub in_member : Place → Member → Place
in_member place m = place ++ step.Member m ∷ []

-- The place of an element of the list at this place, by its number from 0.
abbrev pub in_element : Place → ℕ → Place
in_element place i = place ++ step.Element i ∷ []

-- The steps of a path.
abbrev pub path_step : Path-F Place → Place
path_step Path-F.Document = []
path_step (Path-F.In parent s) = parent.now ++ s ∷ []

abbrev pub path_steps : Path → Place
path_steps = fold-Path Place path_step

-- A step as text: `.name` or `[3]`.
abbrev pub step_text : Step → List ℕ
step_text (step.Member m) = codes "." ++ member_name m
step_text (step.Element i) = codes "[" ++ decimal i ++ codes "]"

-- The first step of a place is a member of the document, and has no dot.
abbrev pub first_text : Step → List ℕ
first_text (step.Member m) = member_name m
first_text (step.Element i) = step_text (step.Element i)

-- A place as text: `sources[0].updates[2][1]`, and `document` for the whole.
abbrev pub place_text : Place → List ℕ
place_text [] = codes "document"
place_text (s ∷ place) = first_text s ++ flat_map step_text place
