use Rattle.std.proofs.Common.{◌≤◌, ◌+◌, ◌-◌, length, take}
use Rattle.std.specs.Io.KnownBytes.{Appends}
use Rattle.whips_io.proofs.whole.write_all.Given as goal

abbrev pub invariant-loop-at : goal.invariant-loop-at
invariant-loop-at g l = record {
  in_range : l.at ≤ length l.bytes;
  kept : g.O.Sink.faults l.initial.output ≤ g.O.Sink.faults l.output;
  written : Appends (g.O.Sink.written l.initial.output) (g.O.Sink.written l.output) (take l.at l.bytes);
  counted : g.O.Sink.calls l.output ≤ g.O.Sink.calls l.initial.output + l.at;
}

abbrev pub decreases-loop-at : goal.decreases-loop-at
decreases-loop-at g l = length l.bytes - l.at
