use Rattle.std.proofs.Common.{take}
use Rattle.whips_lists.specs.Lists.{map_with_place}
use Rattle.whips_world.specs.Lines.{view_line}
use Rattle.whips_world.proofs.lines.tell_views.Given as goal

abbrev pub invariant-loop-x : goal.invariant-loop-x
invariant-loop-x g l = g.K.RecordSink.told l.initial.sink l.sink (map_with_place view_line 0 (take l.x (g.S.Store.state l.store).views))
