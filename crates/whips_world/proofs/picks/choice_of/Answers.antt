use Rattle.std.proofs.Common.{sym, ◌∙◌}
use Rattle.std.specs.Prelude.{map, slice_get}
use Rattle.whips_world.specs.Readers.{session_of}
use Rattle.whips_world.proofs.Sessions.{open_scan, open_behind}
use Rattle.whips_world.proofs.picks.choice_of.Goals as goal

pub returns-then-place-scans : goal.returns-then-place-scans
returns-then-place-scans c = open_scan c.args.may_scan c.args.views c.args.s (slice_get (map session_of c.args.readers.now) c.args.s) c.args.place c.count_scans-scans.result (cc) c.count_scans-scans.ensures c.if-place-scans.true

pub returns : goal.returns
returns c = c.behind_scans.ensures ∙ open_behind c.args.may_scan c.args.views c.args.s (slice_get (map session_of c.args.readers.now) c.args.s) c.args.place c.count_scans-scans.result c.is_scanning_at.result (cc) (sym c.is_scanning_at.ensures) c.count_scans-scans.ensures c.if-place-scans.false
