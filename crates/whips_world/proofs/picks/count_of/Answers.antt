use Rattle.std.proofs.Common.{true, false, arith}
use Rattle.std.specs.Prelude.{map, slice_get}
use Rattle.whips_world.specs.Readers.{session_of}
use Rattle.whips_world.proofs.Sessions.{open_long, few}
use Rattle.whips_world.proofs.picks.count_of.Goals as goal

pub returns-then-is_scanning_at-clause-count : goal.returns-then-is_scanning_at-clause-count
returns-then-is_scanning_at-clause-count c = open_long c.args.may_scan c.args.views c.args.s (slice_get (map session_of c.args.readers.now) c.args.s) c.count_scans-scans.result true (cc) (cc) c.count_scans-scans.ensures

pub returns-clause-count : goal.returns-clause-count
returns-clause-count c = open_long c.args.may_scan c.args.views c.args.s (slice_get (map session_of c.args.readers.now) c.args.s) c.count_scans-scans.result false (cc) (cc) c.count_scans-scans.ensures

pub returns-then-is_scanning_at-clause-few : goal.returns-then-is_scanning_at-clause-few
returns-then-is_scanning_at-clause-few c = few c.args.may_scan c.args.views c.count_scans-scans.result 2 c.count_scans-scans.ensures (omega arith)

pub returns-clause-few : goal.returns-clause-few
returns-clause-few c = few c.args.may_scan c.args.views c.count_scans-scans.result 1 c.count_scans-scans.ensures (omega arith)
