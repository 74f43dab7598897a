use Rattle.std.proofs.Common.{◌≡◌, drop, map, length}
use Rattle.serde_json.specs.View.{view}
use Rattle.whips_reading.specs.Places.{path_steps}
use Rattle.whips_reading.specs.Reading.{in_turn}
use Rattle.whips_reading.proofs.Turns.{turn_on}
use Rattle.whips_relation_reading.specs.Columns.{column_added}
use Rattle.whips_relation_reading.proofs.columns.add_columns.Given as goal

abbrev pub invariant-loop-i : goal.invariant-loop-i
invariant-loop-i l = (turn_on view column_added (path_steps l.path) l.i l.columns (drop l.i l.items) ≡ in_turn column_added (path_steps l.path) 0 l.initial.columns (map view l.items)) × (length l.columns.names ≡ l.i) × (length l.columns.kinds ≡ l.i)
