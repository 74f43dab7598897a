use Rattle.std.proofs.Common.{sym, ◌∙◌}
use Rattle.whips_world.proofs.Errors.{err_with}
use Rattle.whips_world.proofs.Ways.{first_done, first_of_core, way_told, way_tried, way_fills, way_goes_on, way_lessens, way_drains}
use Rattle.whips_world.proofs.events.drain.Goals as goal

pub do_event-requires : goal.do_event-requires
do_event-requires g c =
    let on = c.loop-e.invariant in
    first_done g.K.RecordSink.told g.at c.loop-e.core c.loop-e.sink on.run on.at c.in-Some.e (first_of_core g.K.RecordSink.told g.at c.loop-e.core c.loop-e.sink on.run on.at c.first.result c.first.ensures ∙ c.in-Some.is)

pub returns-in_err-do_event-clause-memory : goal.returns-in_err-do_event-clause-memory
returns-in_err-do_event-clause-memory g c =
    err_with c.from_residual.result c.in_err-do_event.field-0.0 _ c.from_residual.ensures.1
    (λ is. way_told g.K.RecordSink.told g.met.K.RecordSink.told_more g.at c.loop-e.core c.loop-e.sink c.loop-e.invariant c.do_event.new.sink (c.in_err-do_event.ensures.memory is))

pub returns-in_err-do_event-clause-failed : goal.returns-in_err-do_event-clause-failed
returns-in_err-do_event-clause-failed g c =
    let on = c.loop-e.invariant in
    let found = first_of_core g.K.RecordSink.told g.at c.loop-e.core c.loop-e.sink on.run on.at c.first.result c.first.ensures ∙ c.in-Some.is in
    err_with c.from_residual.result c.in_err-do_event.field-0.0 _ c.from_residual.ensures.1
    (λ is. way_tried g.K.RecordSink.told g.met.K.RecordSink.told_more g.at c.loop-e.core c.loop-e.sink on g.K.RecordSink.failed g.met.K.RecordSink.failed_later c.do_event.new.sink c.in-Some.e found (c.in_err-do_event.ensures.failed is))

pub returns-then-branch-clause-ok : goal.returns-then-branch-clause-ok
returns-then-branch-clause-ok g c =
    let on = c.loop-e.invariant in
    let found = first_of_core g.K.RecordSink.told g.at c.loop-e.core c.loop-e.sink on.run on.at c.first.result c.first.ensures ∙ c.in-Some.is in
    let did = c.in_ok-do_event.ensures in
    way_fills g.K.RecordSink.told g.met.K.RecordSink.told_more g.at c.loop-e.core c.loop-e.sink on c.in-Some.e found c.do_event.new.core c.do_event.new.sink did.setup did.loaded did.told (sym did.full ∙ c.if-branch.true)

pub loop-e-smaller : goal.loop-e-smaller
loop-e-smaller g c =
    let on = c.loop-e.invariant in
    let found = first_of_core g.K.RecordSink.told g.at c.loop-e.core c.loop-e.sink on.run on.at c.first.result c.first.ensures ∙ c.in-Some.is in
    let did = c.in_ok-do_event.ensures in
    way_lessens g.K.RecordSink.told g.met.K.RecordSink.told_more g.at c.loop-e.core c.loop-e.sink on c.in-Some.e found c.do_event.new.core c.do_event.new.sink did.setup did.loaded did.told (sym did.full ∙ c.if-branch.false)

pub loop-e-preserved : goal.loop-e-preserved
loop-e-preserved g c =
    let on = c.loop-e.invariant in
    let found = first_of_core g.K.RecordSink.told g.at c.loop-e.core c.loop-e.sink on.run on.at c.first.result c.first.ensures ∙ c.in-Some.is in
    let did = c.in_ok-do_event.ensures in
    way_goes_on g.K.RecordSink.told g.met.K.RecordSink.told_more g.at c.loop-e.core c.loop-e.sink on c.in-Some.e found c.do_event.new.core c.do_event.new.sink did.setup did.loaded did.told (sym did.full ∙ c.if-branch.false)

pub returns-clause-ok : goal.returns-clause-ok
returns-clause-ok g c =
    let on = c.loop-e.invariant in
    way_drains g.K.RecordSink.told g.met.K.RecordSink.told_more g.at c.loop-e.core c.loop-e.sink on
    (first_of_core g.K.RecordSink.told g.at c.loop-e.core c.loop-e.sink on.run on.at c.first.result c.first.ensures ∙ c.in_default.is)
