use Rattle.std.proofs.Common.{◌≡◌, suc, ◌+◌, ◌∷◌, length, drop, refl, sym, ap, subst, arith}
use Rattle.std.specs.Prelude.{slice_index_or}
use Rattle.whips_flow.specs.declared.event.Event.TheVariants.{Commit}
use Rattle.whips_world.specs.Runs.{Moment, events_left, IsOnPlan, IsTurned}
use Rattle.whips_world.proofs.Errors.{err_with}
use Rattle.whips_world.proofs.Turns.{plan_at, plan_over}
use Rattle.whips_world.proofs.schedule.play_listed.Goals as goal

pub turn-requires : goal.turn-requires
turn-requires g c =
    let m : Moment _ = record { core = c.loop-i.core; readers = c.loop-i.readers; sink = c.loop-i.sink } in
    let same : c.args.events.now ≡ g.at.1 = c.requires.1.1.1.1.0 in
    let here = subst (λ es. IsOnPlan g.K.RecordSink.told g.at.0 m (events_left (suc c.loop-i.i) (drop c.loop-i.i es))) (sym same) c.loop-i.invariant in
    λ κs lives. (
      lives.0,
      (
        lives.1.0,
        (
          lives.1.1.0,
          (lives.1.1.1, (refl, subst (λ es. IsOnPlan g.K.RecordSink.told g.at.0 m (events_left (c.loop-i.i + 1) (slice_index_or c.args.events.now c.loop-i.i (Commit 0) ∷ drop (c.loop-i.i + 1) es))) same (plan_at g.K.RecordSink.told g.at.0 m c.loop-i.i c.args.events.now (Commit 0) c.loop-i-test.true here))),
        ),
      ),
    )

pub returns-in_err-turn-clause-memory : goal.returns-in_err-turn-clause-memory
returns-in_err-turn-clause-memory g c = err_with c.from_residual.result c.in_err-turn.field-0.0 _ c.from_residual.ensures.1 c.in_err-turn.ensures.memory

pub returns-in_err-turn-clause-failed : goal.returns-in_err-turn-clause-failed
returns-in_err-turn-clause-failed g c = err_with c.from_residual.result c.in_err-turn.field-0.0 _ c.from_residual.ensures.1 c.in_err-turn.ensures.failed

pub returns-then-branch-clause-ok : goal.returns-then-branch-clause-ok
returns-then-branch-clause-ok g c =
    let m : Moment _ = record { core = c.turn.new.core; readers = c.turn.new.readers; sink = c.turn.new.sink } in
    subst (IsTurned g.K.RecordSink.told g.at.0 m (events_left (suc (c.loop-i.i + 1)) (drop (c.loop-i.i + 1) g.at.1))) c.if-branch.true c.in_ok-turn.ensures.ok

pub loop-i-preserved : goal.loop-i-preserved
loop-i-preserved g c =
    let m : Moment _ = record { core = c.turn.new.core; readers = c.turn.new.readers; sink = c.turn.new.sink } in
    subst (IsTurned g.K.RecordSink.told g.at.0 m (events_left (suc (c.loop-i.i + 1)) (drop (c.loop-i.i + 1) g.at.1))) c.if-branch.false c.in_ok-turn.ensures.ok

pub returns-clause-ok : goal.returns-clause-ok
returns-clause-ok g c =
    let m : Moment _ = record { core = c.loop-i.core; readers = c.loop-i.readers; sink = c.loop-i.sink } in
    plan_over g.K.RecordSink.told g.at.0 m c.loop-i.i g.at.1 (omega (arith, c.loop-i-test.false, ap length c.requires.1.1.1.1.0)) c.loop-i.invariant
