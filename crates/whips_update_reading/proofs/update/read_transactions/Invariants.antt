use Rattle.std.proofs.Common.{◌≡◌, drop, map, length}
use Rattle.serde_json.specs.View.{view}
use Rattle.whips_reading.specs.Places.{path_steps}
use Rattle.whips_reading.specs.Reading.{in_turn}
use Rattle.whips_reading.proofs.Turns.{turn_on}
use Rattle.whips_update_reading.specs.Updates.{transaction_added}
use Rattle.whips_update_reading.proofs.update.read_transactions.Given as goal

abbrev pub invariant-loop-i : goal.invariant-loop-i
invariant-loop-i l = (turn_on view (transaction_added l.scope) (path_steps l.path) l.i l.work (drop l.i l.items) ≡ in_turn (transaction_added l.scope) (path_steps l.path) 0 l.initial.work (map view l.items)) × (length l.work.tables ≡ length l.initial.work.tables)
