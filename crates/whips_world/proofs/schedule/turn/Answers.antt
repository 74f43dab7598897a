use Rattle.std.proofs.Common.{◌≡◌, suc, true, [], ◌∷◌, subst}
use Rattle.whips_runs.specs.Records.{skip}
use Rattle.whips_report.specs.Recs.{alone}
use Rattle.whips_world.specs.Readers.{is_allowed_here}
use Rattle.whips_world.specs.Runs.{Moment, events_left}
use Rattle.whips_world.proofs.Errors.{err_with, if_is_ok}
use Rattle.whips_world.proofs.Turns.{plan_told, skips_tried, turn_skips, listed_due}
use Rattle.whips_world.proofs.schedule.turn.Goals as goal

pub returns-in_err-push-clause-memory : goal.returns-in_err-push-clause-memory
returns-in_err-push-clause-memory g c =
    let m : Moment _ = record { core = c.args.core.now; readers = c.args.readers.now; sink = c.args.sink.now } in
    err_with c.from_residual.result c.in_err-push.field-0.0 _ c.from_residual.ensures.1
    (λ is. plan_told g.K.RecordSink.told g.met.K.RecordSink.told_more g.at.0 m (events_left g.at.1 (c.args.entry.1 ∷ g.at.2)) c.requires.1.1.1.1.1 c.push.new.self (c.in_err-push.ensures.memory is))

pub returns-in_err-push-clause-failed : goal.returns-in_err-push-clause-failed
returns-in_err-push-clause-failed g c =
    let m : Moment _ = record { core = c.args.core.now; readers = c.args.readers.now; sink = c.args.sink.now } in
    err_with c.from_residual.result c.in_err-push.field-0.0 _ c.from_residual.ensures.1
    (λ is. skips_tried g.K.RecordSink.told g.met.K.RecordSink.told_more g.at.0 m g.at.1 c.args.entry.1 g.at.2 c.requires.1.1.1.1.1 g.K.RecordSink.failed g.met.K.RecordSink.failed_later (cc) c.push.new.self
    (subst (λ p. g.K.RecordSink.failed c.args.sink.now c.push.new.self (alone (skip p c.args.entry.1) ∷ [])) c.requires.1.1.1.1.0 (c.in_err-push.ensures.failed is)))

pub returns-then-not-is_allowed-clause-ok : goal.returns-then-not-is_allowed-clause-ok
returns-then-not-is_allowed-clause-ok g c =
    let m : Moment _ = record { core = c.args.core.now; readers = c.args.readers.now; sink = c.args.sink.now } in
    turn_skips g.K.RecordSink.told g.met.K.RecordSink.told_more g.at.0 m g.at.1 c.args.entry.1 g.at.2 c.requires.1.1.1.1.1 (cc) c.push.new.self
    (subst (λ p. g.K.RecordSink.told c.args.sink.now c.push.new.self (alone (skip p c.args.entry.1) ∷ [])) c.requires.1.1.1.1.0 c.in_ok-push.ensures.told)

pub act-requires : goal.act-requires
act-requires g c =
    let m : Moment _ = record { core = c.args.core.now; readers = c.args.readers.now; sink = c.args.sink.now } in
    let may : is_allowed_here m.core m.readers c.args.entry.1 ≡ true = cc in
    λ κs lives. (
      lives.0,
      (
        lives.1.0,
        (
          lives.1.1.0,
          (lives.1.1.1, (may, (events_left (suc g.at.1) g.at.2, listed_due g.K.RecordSink.told g.met.K.RecordSink.told_more g.at.0 m g.at.1 c.args.entry.1 g.at.2 c.requires.1.1.1.1.1 may))),
        ),
      ),
    )

pub returns-clause-ok : goal.returns-clause-ok
returns-clause-ok g c =
    let m : Moment _ = record { core = c.args.core.now; readers = c.args.readers.now; sink = c.args.sink.now } in
    let may : is_allowed_here m.core m.readers c.args.entry.1 ≡ true = cc in
    if_is_ok c.act.result c.act.ensures.ok
    (λ full t. t (events_left (suc g.at.1) g.at.2) (listed_due g.K.RecordSink.told g.met.K.RecordSink.told_more g.at.0 m g.at.1 c.args.entry.1 g.at.2 c.requires.1.1.1.1.1 may))
