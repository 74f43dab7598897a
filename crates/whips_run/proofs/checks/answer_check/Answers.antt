use Rattle.std.proofs.Common.{◌≡◌, Ok, Err, sym, ap, ◌∙◌, ⊎_elim, arith}
use Rattle.whips_io.specs.Counts.{HasRisen}
use Rattle.whips_script_reading.specs.Script.{script_of}
use Rattle.whips_run.specs.Answer.{canonical_line, checked, refusal_text}
use Rattle.whips_run.proofs.Answered.{canonical_answer, refusal_checked, ends, fails, not_five, not_six}
use Rattle.whips_run.proofs.checks.answer_check.Goals as goal

pub returns-in-Ok-clause-ended : goal.returns-in-Ok-clause-ended
returns-in-Ok-clause-ended g c = λ no_fault no_want.
    let s = c.in-Ok.script in
    ends (checked c.args.bytes.items) 0 (canonical_line s) (canonical_answer c.args.bytes.items s (ap script_of (sym c.deref.ensures.value) ∙ c.in-Ok.ensures)) _ _ c.answer_canonical.result (c.answer_canonical.ensures.ended no_fault no_want)

pub returns-in-Ok-clause-sink_failed : goal.returns-in-Ok-clause-sink_failed
returns-in-Ok-clause-sink_failed g c = λ is_fault.
    let s = c.in-Ok.script in
    fails (checked c.args.bytes.items) 0 (canonical_line s) (canonical_answer c.args.bytes.items s (ap script_of (sym c.deref.ensures.value) ∙ c.in-Ok.ensures)) _ _ (HasRisen (g.O.Sink.faults c.args.output.now) (g.O.Sink.faults c.answer_canonical.new.output)) (c.answer_canonical.ensures.sink_failed is_fault)

pub returns-in-Ok-clause-done : goal.returns-in-Ok-clause-done
returns-in-Ok-clause-done g c = λ done.
    let e = c.answer_canonical.ensures.ended (not_five c.answer_canonical.result done) (not_six c.answer_canonical.result done) in
    let is = ap script_of (sym c.deref.ensures.value) ∙ c.in-Ok.ensures in
    record { named = c.in-Ok.script; is = is; written = e.1; again = c.answer_canonical.ensures.read (not_six c.answer_canonical.result done) c.args.bytes.items is }

pub returns-in-Err-Refused-clause-ended : goal.returns-in-Err-Refused-clause-ended
returns-in-Err-Refused-clause-ended g c = λ no_fault no_want.
    let refused : script_of c.deref.result.now ≡ Err c.in-Err-Refused.refusal = c.in-Err-Refused.ensures c.in-Err-Refused.refusal c.in-Err-Refused.field-0-is in
    ends (checked c.args.bytes.items) 3 (refusal_text c.in-Err-Refused.refusal) (refusal_checked c.args.bytes.items c.in-Err-Refused.refusal (ap script_of (sym c.deref.ensures.value) ∙ refused)) _ _ c.answer_refusal.result (c.answer_refusal.ensures.ended no_fault no_want)

pub returns-in-Err-Refused-clause-sink_failed : goal.returns-in-Err-Refused-clause-sink_failed
returns-in-Err-Refused-clause-sink_failed g c = λ is_fault.
    let refused : script_of c.deref.result.now ≡ Err c.in-Err-Refused.refusal = c.in-Err-Refused.ensures c.in-Err-Refused.refusal c.in-Err-Refused.field-0-is in
    fails (checked c.args.bytes.items) 3 (refusal_text c.in-Err-Refused.refusal) (refusal_checked c.args.bytes.items c.in-Err-Refused.refusal (ap script_of (sym c.deref.ensures.value) ∙ refused)) _ _ (HasRisen (g.O.Sink.faults c.args.output.now) (g.O.Sink.faults c.answer_refusal.new.output)) (c.answer_refusal.ensures.sink_failed is_fault)

pub returns-in-Err-Refused-clause-done : goal.returns-in-Err-Refused-clause-done
returns-in-Err-Refused-clause-done g c = λ done.
    let e = c.answer_refusal.ensures.ended (not_five c.answer_refusal.result done) (not_six c.answer_refusal.result done) in
    let three = e.0 in
    absurd (⊎_elim (λ z. omega (arith, z, three)) (λ s. omega (arith, s, three)) done)
