use Rattle.std.proofs.Common.{◌≡◌, ◌<◌, drop, map, length}
use Rattle.serde_json.specs.View.{view}
use Rattle.whips_reading.specs.Places.{path_steps}
use Rattle.whips_reading.specs.Reading.{in_turn}
use Rattle.whips_reading.proofs.Turns.{turn_on}
use Rattle.whips_relation_reading.specs.Columns.{key_column_added}
use Rattle.std.specs.List.{AllByRecursion}
use Rattle.whips_relation_reading.proofs.key.add_key.Given as goal

abbrev pub invariant-loop-i : goal.invariant-loop-i
invariant-loop-i l = (turn_on view (key_column_added l.names) (path_steps l.path) l.i l.key.items (drop l.i l.items) ≡ in_turn (key_column_added l.names) (path_steps l.path) 0 l.initial.key.items (map view l.items)) × AllByRecursion (λ c. c < length l.names) l.key.items
