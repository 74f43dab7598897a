use Rattle.std.proofs.Common.{sym, subst}
use Rattle.whips_setup.specs.Setups.{SetupData}
use Rattle.whips_reports.specs.Reported.{reported, run_of}
use Rattle.whips_reports.specs.Lines.{report}
use Rattle.whips_world.specs.Runs.{scheduled}
use Rattle.whips_report.specs.Told.{IsWritten, IsPartWritten, output_at}
use Rattle.whips_run.proofs.Reports.{by_end, whole_written, part_told, part_failed}
use Rattle.whips_run.proofs.runs.run_lines.Goals as goal

pub returns-clause-written : goal.returns-clause-written
returns-clause-written g c =
    let s = scheduled c.args.setup c.args.work c.args.schedule.now.sessions in
    let plan = c.args.schedule.now.plan.now in
    let l = c.args.sink.now.labels.now in
    let old = output_at g.O.Sink.written g.O.Sink.faults c.args.sink.now.output.now in
    let new = output_at g.O.Sink.written g.O.Sink.faults c.run_work.new.sink.output.now in
    by_end (λ ran. ran.is_full) (report s l plan) (run_of s plan).is_full old new c.run_work.result c.run_work.ensures.told c.run_work.ensures.memory c.run_work.ensures.failed
    (λ ran t. (t.0.0, sym t.1, whole_written s l plan old new (subst (λ (d : SetupData). IsWritten l d (reported s (run_of s plan)) old new) c.requires.same t.0.3)))
    (λ t. (t.2.0, part_told s l plan old new t.0 t.1 (subst (λ (d : SetupData). IsWritten l d t.0 old new) c.requires.same t.2.3)))
    (λ t. (t.2.0, part_failed s l plan old new t.0 t.1 (subst (λ (d : SetupData). IsPartWritten l d t.0 old new) c.requires.same t.2.1)))
