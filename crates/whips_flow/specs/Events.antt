-- The events of a run.
use Rattle.std.specs.Prelude.{Bool, true, false}
use Rattle.whips_flow.specs.declared.event.Event.{Event}
use Rattle.whips_flow.specs.declared.event.Event.TheVariants.{SessionOpen, SessionScan, SessionFetch, SessionClose}

-- whether it is an event of the pipeline, and not one of a session; own
abbrev pub is_pipeline_event : Event → Bool
is_pipeline_event (SessionOpen s) = false
is_pipeline_event (SessionScan s x) = false
is_pipeline_event (SessionFetch s n) = false
is_pipeline_event (SessionClose s) = false
is_pipeline_event _ = true
