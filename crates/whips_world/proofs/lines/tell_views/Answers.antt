use Rattle.std.proofs.Common.{◌<◌, length, [], ◌∷◌, ◌++◌, ◌+◌, take, sym, subst, append-nil, arith}
use Rattle.std.specs.Prelude.{slice_index_or}
use Rattle.whips_lists.specs.Lists.{map_with_place}
use Rattle.whips_model.specs.Relation.{Table}
use Rattle.whips_runs.specs.Records.{final_rows}
use Rattle.whips_store.specs.Stores.{no_view}
use Rattle.whips_world.specs.Lines.{view_line}
use Rattle.whips_world.specs.Runs.{IsFirstPart}
use Rattle.whips_world.proofs.Errors.{err_with, placed_next, first_placed}
use Rattle.whips_world.proofs.lines.tell_views.Goals as goal

pub returns-in_err-push-clause-memory : goal.returns-in_err-push-clause-memory
returns-in_err-push-clause-memory g c =
    let vs = (g.S.Store.state c.args.store.now).views in
    let so_far = map_with_place view_line 0 (take c.loop-x.x vs) in
    err_with c.from_residual.result c.in_err-push.field-0.0 _ c.from_residual.ensures.1 (λ is. (
      so_far ++ [],
      subst (λ xs. IsFirstPart xs (map_with_place view_line 0 vs)) (sym (append-nil so_far)) (first_placed view_line 0 c.loop-x.x vs),
      g.met.K.RecordSink.told_more c.args.sink.now c.loop-x.sink c.push.new.self so_far [] c.loop-x.invariant (c.in_err-push.ensures.memory is),
    ))

pub returns-in_err-push-clause-failed : goal.returns-in_err-push-clause-failed
returns-in_err-push-clause-failed g c =
    let vs = (g.S.Store.state c.args.store.now).views in
    let so_far = map_with_place view_line 0 (take c.loop-x.x vs) in
    let here = view_line c.loop-x.x (slice_index_or vs c.loop-x.x no_view) ∷ [] in
    let within : c.loop-x.x < length vs = omega (arith, c.loop-x-test.true, c.views-x-end.ensures) in
    err_with c.from_residual.result c.in_err-push.field-0.0 _ c.from_residual.ensures.1 (λ is. (
      so_far ++ here,
      subst (λ xs. IsFirstPart xs (map_with_place view_line 0 vs)) (placed_next view_line c.loop-x.x vs no_view within) (first_placed view_line 0 (c.loop-x.x + 1) vs),
      g.met.K.RecordSink.failed_later c.args.sink.now c.loop-x.sink c.push.new.self so_far here c.loop-x.invariant
          (subst (λ (t : Table). g.K.RecordSink.failed c.loop-x.sink c.push.new.self (record { entry = final_rows c.loop-x.x; rows = t.rows } ∷ [])) c.current.ensures (c.in_err-push.ensures.failed is)),
    ))

pub loop-x-preserved : goal.loop-x-preserved
loop-x-preserved g c =
    let vs = (g.S.Store.state c.args.store.now).views in
    let so_far = map_with_place view_line 0 (take c.loop-x.x vs) in
    let told : g.K.RecordSink.told c.loop-x.sink c.push.new.self (view_line c.loop-x.x (slice_index_or vs c.loop-x.x no_view) ∷ []) =
    subst (λ (t : Table). g.K.RecordSink.told c.loop-x.sink c.push.new.self (record { entry = final_rows c.loop-x.x; rows = t.rows } ∷ [])) c.current.ensures c.in_ok-push.ensures.told in
    subst (g.K.RecordSink.told c.args.sink.now c.push.new.self) (sym (placed_next view_line c.loop-x.x vs no_view (omega (arith, c.loop-x-test.true, c.views-x-end.ensures))))
    (g.met.K.RecordSink.told_more c.args.sink.now c.loop-x.sink c.push.new.self so_far _ c.loop-x.invariant told)
