use Rattle.std.proofs.Common.{◌≡◌, drop, map}
use Rattle.serde_json.specs.View.{view}
use Rattle.whips_reading.specs.Places.{path_steps}
use Rattle.whips_reading.specs.Reading.{in_turn}
use Rattle.whips_reading.proofs.Turns.{turn_on}
use Rattle.whips_plan_reading.specs.Schedules.{event_added}
use Rattle.whips_plan_reading.proofs.schedule.add_events.Given as goal

abbrev pub invariant-loop-i : goal.invariant-loop-i
invariant-loop-i l = turn_on view (event_added l.names) (path_steps l.path) l.i l.events.items (drop l.i l.items) ≡ in_turn (event_added l.names) (path_steps l.path) 0 l.initial.events.items (map view l.items)
