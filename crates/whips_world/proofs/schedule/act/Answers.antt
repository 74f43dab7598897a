use Rattle.std.proofs.Common.{◌≡◌, true}
use Rattle.whips_flow.specs.Events.{is_pipeline_event}
use Rattle.whips_world.specs.Runs.{Moment}
use Rattle.whips_world.proofs.Errors.{ok_both, ok_with, if_err, if_is_ok}
use Rattle.whips_world.proofs.Turns.{due_told, does_tried, turn_does, enabled_piped}
use Rattle.whips_world.proofs.schedule.act.Goals as goal

pub returns-then-is_pipeline-clause-ok : goal.returns-then-is_pipeline-clause-ok
returns-then-is_pipeline-clause-ok g c =
    let m : Moment _ = record { core = c.args.core.now; readers = c.args.readers.now; sink = c.args.sink.now } in
    let did = c.do_event.ensures in
    let piped : is_pipeline_event c.args.e ≡ true = cc in
    let en = enabled_piped m.core m.readers c.args.e piped c.requires.1.1.1.1.0 in
    if_is_ok c.do_event.result (ok_with c.do_event.result _ _ did.full (ok_both c.do_event.result _ _ did.setup (ok_both c.do_event.result _ _ did.loaded did.told)))
    (λ full t left due. turn_does g.K.RecordSink.told g.met.K.RecordSink.told_more g.at m c.args.e left due c.do_event.new.core c.do_event.new.sink en t.1.0 t.1.1.0 t.1.1.1 full t.0)

pub returns-then-is_pipeline-clause-memory : goal.returns-then-is_pipeline-clause-memory
returns-then-is_pipeline-clause-memory g c =
    let m : Moment _ = record { core = c.args.core.now; readers = c.args.readers.now; sink = c.args.sink.now } in
    if_err c.do_event.result c.do_event.ensures.memory
    (λ e t is. due_told g.K.RecordSink.told g.met.K.RecordSink.told_more g.at m c.args.e c.requires.1.1.1.1.1.0 c.requires.1.1.1.1.1.1 c.requires.1.1.1.1.0 c.do_event.new.sink (t is))

pub returns-then-is_pipeline-clause-failed : goal.returns-then-is_pipeline-clause-failed
returns-then-is_pipeline-clause-failed g c =
    let m : Moment _ = record { core = c.args.core.now; readers = c.args.readers.now; sink = c.args.sink.now } in
    let piped : is_pipeline_event c.args.e ≡ true = cc in
    let en = enabled_piped m.core m.readers c.args.e piped c.requires.1.1.1.1.0 in
    if_err c.do_event.result c.do_event.ensures.failed (λ e t is.
    does_tried g.K.RecordSink.told g.met.K.RecordSink.told_more g.at m c.args.e c.requires.1.1.1.1.1.0 c.requires.1.1.1.1.1.1 g.K.RecordSink.failed g.met.K.RecordSink.failed_later en c.do_event.new.sink (t is))
