use Rattle.std.proofs.Common.{length, refl, sym, ap, subst, ◌∙◌}
use Rattle.std.proofs.lemmas.List.{length-replicate}
use Rattle.whips_setup.specs.declared.plan.Plan.TheVariants.{Listed}
use Rattle.whips_setup.specs.Setups.{SetupData}
use Rattle.whips_report.specs.declared.sink.RecordErr.TheVariants.{NoMemory}
use Rattle.whips_world.specs.Runs.{Moment, all_left, IsOnPlan}
use Rattle.whips_world.proofs.Errors.{err_with}
use Rattle.whips_world.proofs.Turns.{plan_begins, begun_told}
use Rattle.whips_world.proofs.schedule.play.Goals as goal

pub returns-in_err-readers-clause-memory : goal.returns-in_err-readers-clause-memory
returns-in_err-readers-clause-memory g c =
    err_with c.from_residual.result NoMemory _ c.from_residual.ensures.1
    (λ is. begun_told g.K.RecordSink.told g.met.K.RecordSink.told_more g.at c.args.core.now c.args.sink.now _ c.requires.1.1.1.1 (g.met.K.RecordSink.told_none c.args.sink.now))

pub play_listed-requires : goal.play_listed-requires
play_listed-requires g c =
    let m : Moment _ = record { core = c.args.core.now; readers = c.deref_mut.result.now; sink = c.args.sink.now } in
    let begins =
    plan_begins g.K.RecordSink.told g.met.K.RecordSink.told_more g.at c.args.core.now c.args.sink.now _ c.requires.1.1.1.1
    c.deref_mut.result.now c.views.result (c.views.ensures ∙ ap (λ (s : SetupData). length s.views) c.setup.ensures) (c.deref_mut.ensures.value ∙ c.in_ok-readers.ensures) in
    λ κs lives. (
      lives.0,
      (
        lives.1.0,
        (
          lives.1.1.0,
          (lives.1.1.1, (refl, subst (λ plan. IsOnPlan g.K.RecordSink.told g.at m (all_left plan)) (c.in-Listed.is ∙ ap Listed (sym c.as_slice.ensures)) begins)),
        ),
      ),
    )

pub play_picked-requires : goal.play_picked-requires
play_picked-requires g c =
    let m : Moment _ = record { core = c.args.core.now; readers = c.deref_mut-in-Picked.result.now; sink = c.args.sink.now } in
    let are = c.deref_mut-in-Picked.ensures.value ∙ c.in_ok-readers.ensures in
    let begins =
    plan_begins g.K.RecordSink.told g.met.K.RecordSink.told_more g.at c.args.core.now c.args.sink.now _ c.requires.1.1.1.1
    c.deref_mut-in-Picked.result.now c.views.result (c.views.ensures ∙ ap (λ (s : SetupData). length s.views) c.setup.ensures) are in
    λ κs lives. (
      lives.0,
      (
        lives.1.0,
        (
          lives.1.1.0,
          (
            lives.1.1.1,
            (
              ap length are ∙ (length-replicate c.args.schedule.now.sessions _ ∙ c.requires.1.1.1.1.sessions),
              subst (λ plan. IsOnPlan g.K.RecordSink.told g.at m (all_left plan)) c.in-Picked.is begins,
            ),
          ),
        ),
      ),
    )
