-- The members that a script's objects may have.
use Rattle.std.specs.Prelude.{◌||◌, Bool, codes}
use Rattle.std.specs.Str.{bytes_eq}
use Rattle.whips_reading.specs.declared.json.ObjectForm.{ObjectForm}
use Rattle.whips_reading.specs.declared.json.ObjectForm.TheVariants.{Document, Source, Relation, View, Schedule, PickedSchedule}
use Rattle.whips_reading.specs.Json.{Text}

-- Whether an object of this form may have a member with this name.
abbrev pub is_member_of : ObjectForm → Text → Bool
is_member_of Document name = bytes_eq name (codes "versions") || bytes_eq name (codes "sources") || bytes_eq name (codes "views") || bytes_eq name (codes "sessions") || bytes_eq name (codes "schedule")
is_member_of Source name = bytes_eq name (codes "name") || bytes_eq name (codes "relations") || bytes_eq name (codes "updates")
is_member_of Relation name = bytes_eq name (codes "name") || bytes_eq name (codes "columns") || bytes_eq name (codes "key") || bytes_eq name (codes "rows")
is_member_of View name = bytes_eq name (codes "name") || bytes_eq name (codes "relations") || bytes_eq name (codes "equal") || bytes_eq name (codes "where") || bytes_eq name (codes "out") || bytes_eq name (codes "slots")
is_member_of Schedule name = bytes_eq name (codes "events")
is_member_of PickedSchedule name = bytes_eq name (codes "start") || bytes_eq name (codes "steps")
