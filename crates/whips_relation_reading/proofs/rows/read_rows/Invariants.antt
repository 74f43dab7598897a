use Rattle.std.proofs.Common.{◌≡◌, drop, map}
use Rattle.serde_json.specs.View.{view}
use Rattle.whips_reading.specs.Places.{path_steps}
use Rattle.whips_reading.specs.Reading.{in_turn}
use Rattle.whips_reading.proofs.Turns.{turn_on}
use Rattle.whips_relation_reading.specs.Rows.{row_added}
use Rattle.whips_relation_reading.proofs.rows.read_rows.Given as goal

abbrev pub invariant-loop-i : goal.invariant-loop-i
invariant-loop-i l = turn_on view (row_added l.texts) (path_steps l.path) l.i l.relation (drop l.i l.items) ≡ in_turn (row_added l.texts) (path_steps l.path) 0 l.initial.relation (map view l.items)
