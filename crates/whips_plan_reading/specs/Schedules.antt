-- The schedule of a script.
use Rattle.std.specs.Prelude.{◌&&◌, Bool, true, false, List, [], ◌∷◌, ◌++◌, nat_le, count_by, is_some, Ok, if◌then◌else◌}
use Rattle.serde_json.specs.Data.{Data}
use Rattle.serde_json.specs.Find.{get}
use Rattle.whips_flow.specs.declared.event.Event.{Event}
use Rattle.whips_flow.specs.declared.event.Event.TheVariants.{SessionScan}
use Rattle.whips_setup.specs.declared.plan.Plan.{Plan}
use Rattle.whips_setup.specs.declared.plan.Plan.TheVariants.{Listed, Picked}
use Rattle.whips_reading.specs.declared.place.Code.TheVariants.{Shape, Limit, BadEvent}
use Rattle.whips_reading.specs.declared.place.Member.{Member}
use Rattle.whips_reading.specs.declared.place.Member.TheVariants as member
use Rattle.whips_reading.specs.declared.json.ObjectForm.TheVariants.{Schedule, PickedSchedule}
use Rattle.whips_reading.specs.Json.{is_object_of}
use Rattle.whips_reading.specs.Places.{Place, member_name}
use Rattle.whips_reading.specs.Members.{is_member_of}
use Rattle.whips_reading.specs.Reading.{Read, ◌>>=◌, ◌>>◌, refuse, check, there, within, within_or, elements, in_turn, number_within}
use Rattle.whips_reading.specs.Names.{text_in}
use Rattle.whips_plan_reading.specs.Events.{Names, event_in}

-- One more event, which a text is.
abbrev pub event_added : Names → List Event → Place → Data → Read (List Event)
event_added names events place d = do
  text ← text_in place d
  event ← there (event_in names text) BadEvent place
  Ok (events ++ event ∷ [])

abbrev pub is_scan : Event → Bool
is_scan (SessionScan s x) = true
is_scan _ = false

abbrev pub have_few_scans : List Event → Bool
have_few_scans events = nat_le (count_by is_scan events) 1000

-- Up to 65,536 events, each of which is tried before the number of those that begin a scan: at most 1,000.
abbrev pub events_in : Names → Place → Data → Read (List Event)
events_in names place d = do
  ds ← elements 0 65536 place d
  events ← in_turn (event_added names) place 0 [] ds
  check (have_few_scans events) Limit place
  Ok events

-- The events of a schedule that lists them.
abbrev pub listed_in : Names → Place → Data → Read Plan
listed_in names place d = do
  events ← within member.Events (events_in names) place d
  Ok (Listed events)

-- The start and the number of steps of a schedule whose events are picked.
abbrev pub picked_in : Place → Data → Read Plan
picked_in place d = do
  start ← within member.Start (number_within 0 4294967295) place d
  steps ← within member.Steps (number_within 0 65536) place d
  Ok (Picked start steps)

abbrev pub has_member : Member → Data → Bool
has_member m d = is_some (get (member_name m) d)

-- Whether a schedule is an object with `events` alone.
abbrev pub is_listed : Data → Bool
is_listed d = is_object_of (is_member_of Schedule) d && has_member member.Events d

-- Whether a schedule is an object with `start` and `steps` alone.
abbrev pub is_picked : Data → Bool
is_picked d = is_object_of (is_member_of PickedSchedule) d && has_member member.Start d && has_member member.Steps d

-- A schedule is of one of these two forms.
abbrev pub schedule_in : Names → Place → Data → Read Plan
schedule_in names place d =
    if is_listed d then listed_in names place d
    else (if is_picked d then picked_in place d else refuse Shape place)

-- The schedule of a document, which lists no event where the member is left out.
abbrev pub schedule_of : Names → Place → Data → Read Plan
schedule_of names place d = within_or (Listed []) member.Schedule (schedule_in names) place d
