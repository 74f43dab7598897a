use Rattle.std.proofs.Common.{◌≡◌, Err, sym, ap, ◌∙◌}
use Rattle.whips_io.specs.Counts.{HasRisen}
use Rattle.whips_script_reading.specs.Script.{script_of}
use Rattle.whips_run.specs.Answer.{answer, run_of_script, run_status, report_of, refusal_text}
use Rattle.whips_run.specs.declared.top.Ended.{Ended}
use Rattle.whips_run.proofs.Answered.{script_answer, refusal_answer, ends, stops, fails, meets, not_five, not_six}
use Rattle.whips_run.proofs.answers.answer_to.Goals as goal

pub returns-in-Ok-clause-ended : goal.returns-in-Ok-clause-ended
returns-in-Ok-clause-ended g c = λ no_fault no_want.
    let s = c.in-Ok.script in
    ends (answer c.args.bytes.items) (run_status (run_of_script s)) (report_of s) (script_answer c.args.bytes.items s (ap script_of (sym c.deref.ensures.value) ∙ c.in-Ok.ensures)) _ _ c.answer_script.result.status (c.answer_script.ensures.ended no_fault no_want)

pub returns-in-Ok-clause-sink_failed : goal.returns-in-Ok-clause-sink_failed
returns-in-Ok-clause-sink_failed g c = λ is_fault.
    let s = c.in-Ok.script in
    fails (answer c.args.bytes.items) (run_status (run_of_script s)) (report_of s) (script_answer c.args.bytes.items s (ap script_of (sym c.deref.ensures.value) ∙ c.in-Ok.ensures)) _ _ (HasRisen (g.O.Sink.faults c.args.output.now) (g.O.Sink.faults c.answer_script.new.output)) (c.answer_script.ensures.sink_failed is_fault)

pub returns-in-Ok-clause-no_memory : goal.returns-in-Ok-clause-no_memory
returns-in-Ok-clause-no_memory g c = λ want.
    let s = c.in-Ok.script in
    stops (answer c.args.bytes.items) (run_status (run_of_script s)) (report_of s) (script_answer c.args.bytes.items s (ap script_of (sym c.deref.ensures.value) ∙ c.in-Ok.ensures)) _ _ (c.answer_script.ensures.no_memory want)

pub returns-in-Ok-clause-headline : goal.returns-in-Ok-clause-headline
returns-in-Ok-clause-headline g c = λ done.
    let five = not_five c.answer_script.result.status done in
    let six = not_six c.answer_script.result.status done in
    meets c.args.bytes.items c.in-Ok.script _ _ (ap script_of (sym c.deref.ensures.value) ∙ c.in-Ok.ensures) (c.answer_script.ensures.valid five six) (c.answer_script.ensures.ended five six).1

pub returns-in-Err-Refused-clause-ended : goal.returns-in-Err-Refused-clause-ended
returns-in-Err-Refused-clause-ended g c = λ no_fault no_want.
    let same : c.with.result.status ≡ c.answer_refusal.result = ap (λ (e : Ended). e.status) c.with.ensures in
    let refused : script_of c.deref.result.now ≡ Err c.in-Err-Refused.refusal = c.in-Err-Refused.ensures c.in-Err-Refused.refusal c.in-Err-Refused.field-0-is in
    let e = c.answer_refusal.ensures.ended (λ five. no_fault (same ∙ five)) (λ six. no_want (same ∙ six)) in
    ends (answer c.args.bytes.items) 3 (refusal_text c.in-Err-Refused.refusal) (refusal_answer c.args.bytes.items c.in-Err-Refused.refusal (ap script_of (sym c.deref.ensures.value) ∙ refused)) _ _ c.with.result.status (same ∙ e.0, e.1)

pub returns-in-Err-Refused-clause-sink_failed : goal.returns-in-Err-Refused-clause-sink_failed
returns-in-Err-Refused-clause-sink_failed g c = λ is_fault.
    let same : c.with.result.status ≡ c.answer_refusal.result = ap (λ (e : Ended). e.status) c.with.ensures in
    let refused : script_of c.deref.result.now ≡ Err c.in-Err-Refused.refusal = c.in-Err-Refused.ensures c.in-Err-Refused.refusal c.in-Err-Refused.field-0-is in
    fails (answer c.args.bytes.items) 3 (refusal_text c.in-Err-Refused.refusal) (refusal_answer c.args.bytes.items c.in-Err-Refused.refusal (ap script_of (sym c.deref.ensures.value) ∙ refused)) _ _ (HasRisen (g.O.Sink.faults c.args.output.now) (g.O.Sink.faults c.answer_refusal.new.output)) (c.answer_refusal.ensures.sink_failed (sym same ∙ is_fault))

pub returns-in-Err-Refused-clause-no_memory : goal.returns-in-Err-Refused-clause-no_memory
returns-in-Err-Refused-clause-no_memory g c = λ want.
    let same : c.with.result.status ≡ c.answer_refusal.result = ap (λ (e : Ended). e.status) c.with.ensures in
    (0, c.answer_refusal.ensures.no_memory (sym same ∙ want))
