use Rattle.std.proofs.Common.{[], refl}
use Rattle.whips_report.specs.declared.sink.RecordErr.TheVariants.{NoMemory}
use Rattle.whips_world.proofs.Errors.{err_with}
use Rattle.whips_run.proofs.runs.run_sources.Goals as goal

pub returns-in_err-store-clause-memory : goal.returns-in_err-store-clause-memory
returns-in_err-store-clause-memory g c = err_with c.from_residual.result NoMemory _ c.from_residual.ensures.1 (λ is work is_work are. ([], (_, refl), g.met.K.RecordSink.told_none c.args.sink.now))
