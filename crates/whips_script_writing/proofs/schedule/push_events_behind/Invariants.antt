use Rattle.std.proofs.Common.{◌≡◌, ◌++◌, take, string_bytes, map}
use Rattle.whips_script_writing.specs.Objects.{behind_commas}
use Rattle.whips_script_writing.specs.Scripts.{event_data}
use Rattle.whips_script_writing.proofs.schedule.push_events_behind.Given as goal

abbrev pub invariant-loop-event : goal.invariant-loop-event
invariant-loop-event l = string_bytes l.out ≡ string_bytes l.initial.out ++ behind_commas (map (event_data l.labels) (take l.event-index l.events))
