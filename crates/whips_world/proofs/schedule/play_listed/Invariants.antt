use Rattle.std.proofs.Common.{drop, suc}
use Rattle.whips_world.specs.Runs.{events_left, IsOnPlan}
use Rattle.whips_world.proofs.schedule.play_listed.Given as goal

abbrev pub ghost-turn : goal.ghost-turn
ghost-turn g a = (g.at.0, a.entry.0, drop a.entry.0 g.at.1)

abbrev pub invariant-loop-i : goal.invariant-loop-i
invariant-loop-i g l = IsOnPlan g.K.RecordSink.told g.at.0 (record { core = l.core; readers = l.readers; sink = l.sink }) (events_left (suc l.i) (drop l.i g.at.1))
