use Rattle.whips_world.proofs.Starts.{script_left}
use Rattle.whips_world.proofs.runs.run.Given as goal

abbrev pub ghost-run_on : goal.ghost-run_on
ghost-run_on g a = record { script = script_left a.core.now a.schedule.now.sessions; plan = a.schedule.now.plan.now; sink = a.sink.now }
