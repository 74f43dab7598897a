use Rattle.std.proofs.Common.{◌≡◌, List, length, refl, sym, ap, ap₂, subst, ◌∙◌, arith}
use Rattle.whips_facts.specs.Scripts.{Bytes, Labels}
use Rattle.whips_facts.specs.Values.{IsValidScript}
use Rattle.whips_script_reading.specs.Script.{NamedScript}
use Rattle.whips_world.specs.Runs.{scheduled, EndsWith}
use Rattle.whips_core_laws.proofs.Valid.{valid_script}
use Rattle.whips_run.specs.Answer.{run_of_script, report_of}
use Rattle.whips_run.proofs.Reports.{want_memory, named_written, on_ok, if_is_ok}
use Rattle.whips_run.proofs.runs.write_report.Goals as goal

pub returns-in_err-copy-clause-written : goal.returns-in_err-copy-clause-written
returns-in_err-copy-clause-written g c = want_memory (λ ran. ran.is_full) (report_of c.args.script) (run_of_script c.args.script).is_full c.from_residual.result _ c.from_residual.ensures.1

pub returns-clause-written : goal.returns-clause-written
returns-clause-written g c =
    let parts = c.into_parts-sources in
    let labels : Labels = record { sources = parts.result.sources.items; views = parts.result.views.items; sessions = parts.result.sessions.items; texts = parts.result.texts } in
    named_written c.args.script parts.result.setup parts.result.work labels c.new-labels.result c.args.script.relations parts.result.plan parts.result.plan c.len.result _ _ _ parts.ensures.parts
    (c.new-labels.ensures
    ∙ (ap₂ (λ (a b : List Bytes). record { sources = a; views = b; sessions = c.deref-3.result.now; texts = c.as_slice.result.now }) c.deref.ensures.value c.deref-2.ensures.value
    ∙ ap₂ (λ (s t : List Bytes). record labels { sessions = s; texts = t }) c.deref-3.ensures.value c.as_slice.ensures))
    refl (omega (arith, c.len.ensures, c.deref-3.ensures.len, ap length c.deref-3.ensures.value)) c.write_job.ensures.written

pub returns-clause-valid : goal.returns-clause-valid
returns-clause-valid g c =
    let parts = c.into_parts-sources in
    on_ok c.write_job.result (subst (λ (n : NamedScript). IsValidScript n.script) (sym parts.ensures.parts) (valid_script (scheduled parts.result.setup parts.result.work (length parts.result.sessions.items)) parts.ensures.setup parts.ensures.work))

pub returns-clause-ended : goal.returns-clause-ended
returns-clause-ended g c =
    let parts = c.into_parts-sources in
    let count : c.len.result ≡ length parts.result.sessions.items = omega (arith, c.len.ensures, c.deref-3.ensures.len, ap length c.deref-3.ensures.value) in
    if_is_ok c.write_job.result c.write_job.ensures.ended (λ ran h.
    subst (λ (n : NamedScript). EndsWith n.script n.plan ran.sources.items ran.store) (sym parts.ensures.parts)
    (subst (λ n. EndsWith (scheduled parts.result.setup parts.result.work n) parts.result.plan ran.sources.items ran.store) count h))
