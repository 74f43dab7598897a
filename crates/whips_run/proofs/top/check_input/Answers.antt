use Rattle.std.proofs.Common.{◌≡◌, ◌⊎◌, ℕ, refl, sym, ap, subst, ◌∙◌}
use Rattle.whips_run.specs.declared.top.Ended.{Ended}
use Rattle.whips_run.specs.Outcome.{whole_checked}
use Rattle.whips_run.proofs.top.check_input.Goals as goal

pub returns-in-Ok-clause-ended : goal.returns-in-Ok-clause-ended
returns-in-Ok-clause-ended g c = λ no_fault no_want.
    let same : c.with.result.status ≡ c.answer_check.result = ap (λ (e : Ended). e.status) c.with.ensures in
    let e = c.answer_check.ensures.ended (λ five. no_fault (same ∙ five)) (λ six. no_want (same ∙ six)) in
    let read = c.in-Ok.ensures.ok in
    (whole_checked c.in-Ok.bytes.items, (refl, read.0, read.1, read.2), same ∙ e.0, e.1)

pub returns-in-Ok-clause-sink_failed : goal.returns-in-Ok-clause-sink_failed
returns-in-Ok-clause-sink_failed g c = λ is_fault.
    let same : c.with.result.status ≡ c.answer_check.result = ap (λ (e : Ended). e.status) c.with.ensures in
    let s = c.answer_check.ensures.sink_failed (sym same ∙ is_fault) in
    let read = c.in-Ok.ensures.ok in
    (whole_checked c.in-Ok.bytes.items, s.0, (refl, read.0, read.1, read.2), s.1, s.2, s.3)

pub returns-in-Ok-clause-headline : goal.returns-in-Ok-clause-headline
returns-in-Ok-clause-headline g c = λ done.
    let same : c.with.result.status ≡ c.answer_check.result = ap (λ (e : Ended). e.status) c.with.ensures in
    let read = c.in-Ok.ensures.ok in
    (c.in-Ok.bytes.items, read.1, read.2, c.answer_check.ensures.done (subst (λ (s : ℕ). (s ≡ 0) ⊎ (s ≡ 7)) same done))
