use Rattle.std.proofs.Common.{true, subst}
use Rattle.whips_world.specs.Runs.{IsPlayed, IsDrained}
use Rattle.whips_world.proofs.Errors.{err_with}
use Rattle.whips_world.proofs.Ways.{run_begins, begin_tried, drained_carries, full_ends, rest_ends, end_told, end_tried}
use Rattle.whips_world.proofs.runs.run_on.Goals as goal

pub returns-in_err-tell_version-clause-failed : goal.returns-in_err-tell_version-clause-failed
returns-in_err-tell_version-clause-failed g c =
    err_with c.from_residual.result c.in_err-tell_version.field-0.0 _ c.from_residual.ensures.1
    (λ is. begin_tried g.K.RecordSink.told g.met.K.RecordSink.told_more g.at g.K.RecordSink.failed c.args.core.now c.args.sink.now c.tell_version.new.sink c.args.transactions.now c.requires.1.1.1.1.0 (c.in_err-tell_version.ensures.failed is))

pub play-requires : goal.play-requires
play-requires g c = λ κs lives. (
  lives.0,
  (
    lives.1.0,
    (
      lives.1.1.0,
      (
        lives.1.1.1,
        record {
          at = run_begins g.K.RecordSink.told g.met.K.RecordSink.told_more g.at c.args.core.now c.args.sink.now c.tell_version.new.sink c.args.transactions.now c.requires.1.1.1.1.0 c.in_ok-tell_version.ensures.told;
          sessions = c.requires.1.1.1.1.1.0;
          plan = c.requires.1.1.1.1.1.1;
        },
      ),
    ),
  ),
)

pub returns-then-branch-clause-told : goal.returns-then-branch-clause-told
returns-then-branch-clause-told g c =
    full_ends g.K.RecordSink.told g.met.K.RecordSink.told_more g.at c.play.new.core c.play.new.sink (subst (IsPlayed g.K.RecordSink.told g.at c.play.new.core c.play.new.sink) c.if-branch.true c.in_ok-play.ensures.ok)

pub drain-requires : goal.drain-requires
drain-requires g c = λ κs lives. (
  lives.0,
  (
    lives.1.0,
    (
      lives.1.1.0,
      (lives.1.1.1, subst (IsPlayed g.K.RecordSink.told g.at c.play.new.core c.play.new.sink) c.if-branch.false c.in_ok-play.ensures.ok),
    ),
  ),
)

pub returns-in_err-tell_end-clause-memory : goal.returns-in_err-tell_end-clause-memory
returns-in_err-tell_end-clause-memory g c =
    let drained = subst (IsDrained g.K.RecordSink.told g.at c.drain.new.core c.drain.new.sink) c.if-branch-2.false c.in_ok-drain.ensures.ok in
    err_with c.from_residual-in_err-tell_end.result c.in_err-tell_end.field-0.0 _ c.from_residual-in_err-tell_end.ensures.1 (λ is. let t = c.in_err-tell_end.ensures.memory is in
    end_told g.K.RecordSink.told g.met.K.RecordSink.told_more g.at c.drain.new.core c.drain.new.sink drained c.args.transactions.now c.requires.1.1.1.1.0.counts c.tell_end.new.sink t.0 t.1 t.2)

pub returns-in_err-tell_end-clause-failed : goal.returns-in_err-tell_end-clause-failed
returns-in_err-tell_end-clause-failed g c =
    let drained = subst (IsDrained g.K.RecordSink.told g.at c.drain.new.core c.drain.new.sink) c.if-branch-2.false c.in_ok-drain.ensures.ok in
    err_with c.from_residual-in_err-tell_end.result c.in_err-tell_end.field-0.0 _ c.from_residual-in_err-tell_end.ensures.1 (λ is. let t = c.in_err-tell_end.ensures.failed is in
    end_tried g.K.RecordSink.told g.met.K.RecordSink.told_more g.at c.drain.new.core c.drain.new.sink drained c.args.transactions.now c.requires.1.1.1.1.0.counts g.K.RecordSink.failed g.met.K.RecordSink.failed_later c.tell_end.new.sink t.0 t.1 t.2)

pub returns-clause-told : goal.returns-clause-told
returns-clause-told g c =
    let drained = subst (IsDrained g.K.RecordSink.told g.at c.drain.new.core c.drain.new.sink) c.if-branch-2.false c.in_ok-drain.ensures.ok in
    rest_ends g.K.RecordSink.told g.met.K.RecordSink.told_more g.at c.drain.new.core c.drain.new.sink drained c.args.transactions.now c.requires.1.1.1.1.0.counts c.tell_end.new.sink c.in_ok-tell_end.ensures.told

pub returns-then-branch-clause-ended : goal.returns-then-branch-clause-ended
returns-then-branch-clause-ended g c =
    drained_carries g.K.RecordSink.told g.met.K.RecordSink.told_more g.at c.play.new.core c.play.new.sink true (subst (IsPlayed g.K.RecordSink.told g.at c.play.new.core c.play.new.sink) c.if-branch.true c.in_ok-play.ensures.ok)

pub returns-clause-ended : goal.returns-clause-ended
returns-clause-ended g c = drained_carries g.K.RecordSink.told g.met.K.RecordSink.told_more g.at c.drain.new.core c.drain.new.sink c.in_ok-drain.field-0 c.in_ok-drain.ensures.ok

pub returns-then-branch-2-clause-ended : goal.returns-then-branch-2-clause-ended
returns-then-branch-2-clause-ended g c = drained_carries g.K.RecordSink.told g.met.K.RecordSink.told_more g.at c.drain.new.core c.drain.new.sink c.in_ok-drain.field-0 c.in_ok-drain.ensures.ok
