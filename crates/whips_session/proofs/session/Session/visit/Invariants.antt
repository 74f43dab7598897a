use Rattle.std.proofs.Common.{◌≡◌, ◌-◌, ◌≤◌}
use Rattle.whips_session.specs.Sessions.{scan_from, IsScanBuffer}
use Rattle.whips_session.specs.Reads.{RowsSaid}
use Rattle.whips_session.proofs.session.Session.visit.Given as goal

abbrev pub invariant-loop-i : goal.invariant-loop-i
invariant-loop-i g l = let look = g.L.Look in record {
  base : look.base l.look ≡ look.base l.initial.look;
  within : l.i - l.place.1 ≤ l.to - l.place.1;
  buffer : IsScanBuffer (look.columns (look.base l.initial.look) l.place.0) l.to l.i l.buf;
  rows : RowsSaid look.row_says (look.base l.initial.look) (look.log l.initial.look) (look.log l.look) (scan_from l.self.version l.place) l.i l.initial.buf l.buf;
}
