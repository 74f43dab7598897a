use Rattle.std.proofs.Common.{[], length, map, refl, sym, ap, subst, ◌∙◌}
use Rattle.whips_setup.specs.Refusals.{IsSetup}
use Rattle.whips_facts.specs.Scripts.{Script}
use Rattle.whips_reports.specs.Reported.{run_of}
use Rattle.whips_core_laws.specs.Core.{Carries}
use Rattle.whips_contents.specs.Contents.{LoadedSource}
use Rattle.whips_report.specs.declared.sink.RecordErr.TheVariants.{NoMemory}
use Rattle.whips_world.specs.Runs.{TellsPart, TellsWhole}
use Rattle.whips_world.proofs.Errors.{err_with}
use Rattle.whips_world.proofs.Starts.{script_is, starts}
use Rattle.whips_world.proofs.runs.run.Goals as goal

pub returns-in_err-counts-clause-memory : goal.returns-in_err-counts-clause-memory
returns-in_err-counts-clause-memory g c = err_with c.from_residual.result NoMemory _ c.from_residual.ensures.1 (λ is work is_work are. ([], (_, refl), g.met.K.RecordSink.told_none c.args.sink.now))

pub returns-in_err-core-clause-memory : goal.returns-in_err-core-clause-memory
returns-in_err-core-clause-memory g c = err_with c.from_residual-in_err-core.result NoMemory _ c.from_residual-in_err-core.ensures.1 (λ is work is_work are. ([], (_, refl), g.met.K.RecordSink.told_none c.args.sink.now))

pub run_on-requires : goal.run_on-requires
run_on-requires g c = λ κs lives. (
  lives.0,
  (
    lives.1.0,
    (
      lives.1.1.0,
      (
        lives.1.1.1,
        (
          starts c.args.setup c.args.sources.items (g.S.Store.state c.args.store) c.in_ok-core.core c.in_ok-core.ensures c.args.sink.now c.deref-2.result.now
              (c.args.schedule.now.sessions, c.args.schedule.now.plan.now) (subst IsSetup c.setup.view_is c.setup.invariant.0) c.requires.fresh c.requires.store
              (c.deref-2.ensures.value ∙ (c.in_ok-counts.ensures ∙ ap (map (λ (z : LoadedSource). length z.site.left)) c.deref.ensures.value)),
          (refl, refl),
        ),
      ),
    ),
  ),
)

pub returns-in_err-is_full-clause-memory : goal.returns-in_err-is_full-clause-memory
returns-in_err-is_full-clause-memory g c = err_with c.from_residual-in_err-is_full.result c.in_err-is_full.field-0.0 _ c.from_residual-in_err-is_full.ensures.1 (λ is work is_work are.
    subst (λ (s : Script). TellsPart g.K.RecordSink.told (record { script = s; plan = c.args.schedule.now.plan.now; sink = c.args.sink.now }) c.run_on.new.sink)
    (script_is c.args.setup c.args.sources.items (g.S.Store.state c.args.store) c.in_ok-core.core c.in_ok-core.ensures c.args.schedule.now.sessions work are) (c.in_err-is_full.ensures.memory is))

pub returns-in_err-is_full-clause-failed : goal.returns-in_err-is_full-clause-failed
returns-in_err-is_full-clause-failed g c = err_with c.from_residual-in_err-is_full.result c.in_err-is_full.field-0.0 _ c.from_residual-in_err-is_full.ensures.1 (λ is work is_work are.
    subst (λ (s : Script). TellsPart g.K.RecordSink.failed (record { script = s; plan = c.args.schedule.now.plan.now; sink = c.args.sink.now }) c.run_on.new.sink)
    (script_is c.args.setup c.args.sources.items (g.S.Store.state c.args.store) c.in_ok-core.core c.in_ok-core.ensures c.args.schedule.now.sessions work are) (c.in_err-is_full.ensures.failed is))

pub returns-clause-told : goal.returns-clause-told
returns-clause-told g c = λ work is_work are.
    subst (λ (s : Script). TellsWhole g.K.RecordSink.told (record { script = s; plan = c.args.schedule.now.plan.now; sink = c.args.sink.now }) c.run_on.new.sink c.in_ok-is_full.is_full)
    (script_is c.args.setup c.args.sources.items (g.S.Store.state c.args.store) c.in_ok-core.core c.in_ok-core.ensures c.args.schedule.now.sessions work are) c.in_ok-is_full.ensures.told

pub returns-clause-ended : goal.returns-clause-ended
returns-clause-ended g c = λ work is_work are. record {
  loaded = c.run_on.new.core.loaded;
  sources_are = sym c.close-sources.ensures.sources;
  store_is = sym c.close-sources.ensures.store;
  carries = subst (λ (s : Script). Carries s c.run_on.new.core.loaded (run_of s c.args.schedule.now.plan.now).pipeline)
      (script_is c.args.setup c.args.sources.items (g.S.Store.state c.args.store) c.in_ok-core.core c.in_ok-core.ensures c.args.schedule.now.sessions work are) c.in_ok-is_full.ensures.ended;
}
