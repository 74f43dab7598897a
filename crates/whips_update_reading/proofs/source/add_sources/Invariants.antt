use Rattle.std.proofs.Common.{◌≡◌, drop, map, length}
use Rattle.serde_json.specs.View.{view}
use Rattle.whips_reading.specs.Places.{path_steps}
use Rattle.whips_reading.specs.Reading.{in_turn}
use Rattle.whips_reading.proofs.Turns.{turn_on}
use Rattle.whips_update_reading.specs.Sources.{AreSources, source_added}
use Rattle.whips_update_reading.proofs.source.add_sources.Given as goal

abbrev pub invariant-loop-i : goal.invariant-loop-i
invariant-loop-i l = (turn_on view (source_added l.texts) (path_steps l.path) l.i l.sources (drop l.i l.items) ≡ in_turn (source_added l.texts) (path_steps l.path) 0 l.initial.sources (map view l.items)) × AreSources l.sources × (length l.sources.names ≡ l.i)
