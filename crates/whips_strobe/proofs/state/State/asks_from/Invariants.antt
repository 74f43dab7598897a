use Rattle.std.proofs.Common.{◌≡◌, ◌++◌, map, drop}
use Rattle.whips_view.specs.ViewDefs.{keyed}
use Rattle.whips_managers.specs.Messages.{ask_of}
use Rattle.whips_strobe.specs.Outs.{all_sent_by}
use Rattle.whips_strobe.proofs.state.State.asks_from.Given as goal

abbrev pub invariant-loop-i : goal.invariant-loop-i
invariant-loop-i l = l.asks.items ++ all_sent_by l.number (map (ask_of (keyed l.view)) (drop l.i l.self.queries)) ≡ all_sent_by l.number (map (ask_of (keyed l.view)) (drop l.first l.self.queries))
