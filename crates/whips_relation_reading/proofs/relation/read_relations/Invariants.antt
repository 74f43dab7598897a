use Rattle.std.proofs.Common.{◌≡◌, ◌+◌, drop, map, length}
use Rattle.serde_json.specs.View.{view}
use Rattle.whips_reading.specs.Places.{path_steps}
use Rattle.whips_reading.specs.Reading.{in_turn}
use Rattle.whips_reading.proofs.Turns.{turn_on}
use Rattle.whips_relation_reading.specs.Relations.{relation_added}
use Rattle.whips_relation_reading.proofs.relation.read_relations.Given as goal

abbrev pub invariant-loop-i : goal.invariant-loop-i
invariant-loop-i l = (turn_on view (relation_added l.texts) (path_steps l.path) l.i l.relations.items (drop l.i l.items) ≡ in_turn (relation_added l.texts) (path_steps l.path) 0 l.initial.relations.items (map view l.items)) × (length l.relations.items ≡ length l.initial.relations.items + l.i)
