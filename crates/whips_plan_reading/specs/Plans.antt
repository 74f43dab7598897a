-- The sessions of a script and its schedule.
use Rattle.std.specs.Prelude.{List, Ok}
use Rattle.serde_json.specs.Data.{Data}
use Rattle.whips_setup.specs.declared.plan.Plan.{Plan}
use Rattle.whips_reading.specs.Json.{Text}
use Rattle.whips_reading.specs.Places.{Place}
use Rattle.whips_reading.specs.Reading.{Read, ◌>>=◌}
use Rattle.whips_plan_reading.specs.Events.{names_with}
use Rattle.whips_plan_reading.specs.Sessions.{sessions_of}
use Rattle.whips_plan_reading.specs.Schedules.{schedule_of}

-- The sessions of a script and its schedule.
pub record PlanForm : Type 0 where
  pub sessions : List Text
  pub plan : Plan

-- A document has its sessions before its schedule, whose events are of sources and views of these names.
abbrev pub plan_in : (sources views : List Text) → Place → Data → Read PlanForm
plan_in sources views place d = do
  sessions ← sessions_of place d
  plan ← schedule_of (names_with sources views sessions) place d
  Ok (record { sessions = sessions; plan = plan })
