use Rattle.std.proofs.Common.{refl, inr}
use Rattle.whips_run.specs.Outcome.{whole}
use Rattle.whips_run.proofs.top.run_input.Goals as goal

pub returns-in-Ok-clause-ended : goal.returns-in-Ok-clause-ended
returns-in-Ok-clause-ended g c = λ no_fault no_want.
    let e = c.answer_to.ensures.ended no_fault no_want in
    let read = c.in-Ok.ensures.ok in
    (whole c.in-Ok.bytes.items, (refl, read.0, read.1, read.2), e.0, e.1)

pub returns-in-Ok-clause-sink_failed : goal.returns-in-Ok-clause-sink_failed
returns-in-Ok-clause-sink_failed g c = λ is_fault.
    let s = c.answer_to.ensures.sink_failed is_fault in
    let read = c.in-Ok.ensures.ok in
    (whole c.in-Ok.bytes.items, s.0, (refl, read.0, read.1, read.2), s.1, s.2, s.3)

pub returns-in-Ok-clause-no_memory : goal.returns-in-Ok-clause-no_memory
returns-in-Ok-clause-no_memory g c = λ want.
    let s = c.answer_to.ensures.no_memory want in
    let read = c.in-Ok.ensures.ok in
    inr (whole c.in-Ok.bytes.items, s.0, (refl, read.0, read.1, read.2), s.1)

pub returns-in-Ok-clause-headline : goal.returns-in-Ok-clause-headline
returns-in-Ok-clause-headline g c = λ done. let read = c.in-Ok.ensures.ok in (c.in-Ok.bytes.items, read.1, read.2, c.answer_to.ensures.headline done)
