use Rattle.std.proofs.Common.{◌≡◌, ◌-◌, ◌≤◌, length}
use Rattle.whips_world.specs.Runs.{turns_left, IsOnPlan}
use Rattle.whips_world.proofs.schedule.play_picked.Given as goal

abbrev pub ghost-act : goal.ghost-act
ghost-act g a = g.at

abbrev pub invariant-loop-i : goal.invariant-loop-i
invariant-loop-i g l =
    IsOnPlan g.K.RecordSink.told g.at (record { core = l.core; readers = l.readers; sink = l.sink }) (turns_left (l.steps - l.i) l.picker l.scans)
    × (l.scans ≤ l.i) × (length l.readers ≡ g.at.script.sessions)
