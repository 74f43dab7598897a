use Rattle.std.proofs.Common.{◌≡◌, [], drop, map, length}
use Rattle.serde_json.specs.View.{view}
use Rattle.whips_reading.specs.Places.{path_steps}
use Rattle.whips_reading.specs.Reading.{in_turn}
use Rattle.whips_reading.proofs.Turns.{turn_on}
use Rattle.whips_relation_reading.specs.Rows.{value_added}
use Rattle.whips_relation_reading.proofs.rows.read_values.Given as goal

abbrev pub invariant-loop-i : goal.invariant-loop-i
invariant-loop-i l = (turn_on view (value_added l.texts l.kinds) (path_steps l.path) l.i l.codes (drop l.i l.items) ≡ in_turn (value_added l.texts l.kinds) (path_steps l.path) 0 [] (map view l.items)) × (length l.codes ≡ l.i)
