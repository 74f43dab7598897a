use Rattle.std.proofs.Common.{◌≡◌, suc, ◌+◌, ◌-◌, cond, sym, ap₂, subst, ◌∙◌, arith}
use Rattle.whips_pick.specs.Picks.{next_state}
use Rattle.whips_runs.specs.Picks.{is_scan}
use Rattle.whips_world.specs.Runs.{Moment, Left, turns_left, IsOnPlan, IsTurned}
use Rattle.whips_world.proofs.Picking.{scans_within, pick_may, pick_due, pick_stops, picks_over}
use Rattle.whips_world.proofs.schedule.play_picked.Goals as goal

pub returns-in_default-clause-ok : goal.returns-in_default-clause-ok
returns-in_default-clause-ok g c =
    let m : Moment _ = record { core = c.loop-i.core; readers = c.loop-i.readers; sink = c.loop-i.sink } in
    let n = c.args.turns.1 - (c.loop-i.i + 1) in
    let more : c.args.turns.1 - c.loop-i.i ≡ suc n = omega (arith, c.loop-i-test.true) in
    pick_stops g.K.RecordSink.told g.at m (c.args.turns.1 - c.loop-i.i) c.loop-i.picker c.loop-i.scans c.loop-i.invariant.0 c.loop-i.invariant.2 c.pick.result c.pick.ensures.event c.in_default.is n more

pub act-requires : goal.act-requires
act-requires g c =
    let m : Moment _ = record { core = c.loop-i.core; readers = c.loop-i.readers; sink = c.loop-i.sink } in
    let n = c.args.turns.1 - (c.loop-i.i + 1) in
    let more : c.args.turns.1 - c.loop-i.i ≡ suc n = omega (arith, c.loop-i-test.true) in
    λ κs lives. (
      lives.0,
      (
        lives.1.0,
        (
          lives.1.1.0,
          (
            lives.1.1.1,
            (
              pick_may g.K.RecordSink.told g.at m (c.args.turns.1 - c.loop-i.i) c.loop-i.picker c.loop-i.scans c.loop-i.invariant.0 c.loop-i.invariant.2 c.pick.result c.pick.ensures.event c.in-Some.e c.in-Some.is,
              (
                turns_left n (next_state c.loop-i.picker) (cond (is_scan c.in-Some.e) (suc c.loop-i.scans) c.loop-i.scans),
                pick_due g.K.RecordSink.told g.at m (c.args.turns.1 - c.loop-i.i) c.loop-i.picker c.loop-i.scans c.loop-i.invariant.0 c.loop-i.invariant.2 c.pick.result c.pick.ensures.event c.in-Some.e c.in-Some.is n more,
              ),
            ),
          ),
        ),
      ),
    )

pub returns-then-branch-clause-ok : goal.returns-then-branch-clause-ok
returns-then-branch-clause-ok g c =
    let m : Moment _ = record { core = c.loop-i.core; readers = c.loop-i.readers; sink = c.loop-i.sink } in
    let after : Moment _ = record { core = c.act.new.core; readers = c.act.new.readers; sink = c.act.new.sink } in
    let n = c.args.turns.1 - (c.loop-i.i + 1) in
    let more : c.args.turns.1 - c.loop-i.i ≡ suc n = omega (arith, c.loop-i-test.true) in
    let left : Left = turns_left n (next_state c.loop-i.picker) (cond (is_scan c.in-Some.e) (suc c.loop-i.scans) c.loop-i.scans) in
    let due = pick_due g.K.RecordSink.told g.at m (c.args.turns.1 - c.loop-i.i) c.loop-i.picker c.loop-i.scans c.loop-i.invariant.0 c.loop-i.invariant.2 c.pick.result c.pick.ensures.event c.in-Some.e c.in-Some.is n more in
    subst (IsTurned g.K.RecordSink.told g.at after left) c.if-branch.true (c.in_ok-act.ensures.ok left due)

pub loop-i-preserved : goal.loop-i-preserved
loop-i-preserved g c =
    let m : Moment _ = record { core = c.loop-i.core; readers = c.loop-i.readers; sink = c.loop-i.sink } in
    let after : Moment _ = record { core = c.act.new.core; readers = c.act.new.readers; sink = c.act.new.sink } in
    let n = c.args.turns.1 - (c.loop-i.i + 1) in
    let more : c.args.turns.1 - c.loop-i.i ≡ suc n = omega (arith, c.loop-i-test.true) in
    let left : Left = turns_left n (next_state c.loop-i.picker) (cond (is_scan c.in-Some.e) (suc c.loop-i.scans) c.loop-i.scans) in
    let due = pick_due g.K.RecordSink.told g.at m (c.args.turns.1 - c.loop-i.i) c.loop-i.picker c.loop-i.scans c.loop-i.invariant.0 c.loop-i.invariant.2 c.pick.result c.pick.ensures.event c.in-Some.e c.in-Some.is n more in
    let turned = subst (IsTurned g.K.RecordSink.told g.at after left) c.if-branch.false (c.in_ok-act.ensures.ok left due) in
    let same : left ≡ turns_left n c.pick.new.picker c.scans_after-scans.result = ap₂ (λ state scans. turns_left n state scans) (sym c.in-Some.ensures.moved) (sym c.scans_after-scans.ensures) in (
      subst (IsOnPlan g.K.RecordSink.told g.at after) same turned,
      scans_within (is_scan c.in-Some.e) c.loop-i.scans c.loop-i.i c.scans_after-scans.result c.scans_after-scans.ensures c.loop-i.invariant.1,
      c.act.auto.readers ∙ c.loop-i.invariant.2,
    )

pub returns-clause-ok : goal.returns-clause-ok
returns-clause-ok g c =
    let m : Moment _ = record { core = c.loop-i.core; readers = c.loop-i.readers; sink = c.loop-i.sink } in
    picks_over g.K.RecordSink.told g.at m (c.args.turns.1 - c.loop-i.i) c.loop-i.picker c.loop-i.scans c.loop-i.invariant.0 (omega (arith, c.loop-i-test.false))
