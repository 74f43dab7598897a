use Rattle.std.proofs.Common.{◌≤◌, ◌+◌, ◌-◌, length}
use Rattle.std.specs.Io.KnownBytes.{Consumes}
use Rattle.whips_io.proofs.whole.read_all.Given as goal

abbrev pub invariant-loop-bytes : goal.invariant-loop-bytes
invariant-loop-bytes g l = record {
  in_range : length l.bytes.items ≤ l.limit + 1;
  kept : g.I.Source.faults l.initial.input ≤ g.I.Source.faults l.input;
  taken : Consumes (g.I.Source.left l.initial.input) (g.I.Source.left l.input) l.bytes.items;
  counted : g.I.Source.calls l.input ≤ g.I.Source.calls l.initial.input + length l.bytes.items;
}

abbrev pub decreases-loop-bytes : goal.decreases-loop-bytes
decreases-loop-bytes g l = l.limit + 1 - length l.bytes.items
