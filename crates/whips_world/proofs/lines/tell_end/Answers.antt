use Rattle.std.proofs.Common.{[], ◌∷◌, ◌++◌, sym, ap, subst, ◌∙◌}
use Rattle.std.specs.Prelude.{OnOk}
use Rattle.whips_lists.specs.Lists.{map_with_place}
use Rattle.whips_runs.specs.Records.{final}
use Rattle.whips_store.specs.Stores.{StoreState}
use Rattle.whips_report.specs.Recs.{alone}
use Rattle.whips_world.specs.Lines.{view_line}
use Rattle.whips_world.proofs.Errors.{if_ok, if_err}
use Rattle.whips_world.proofs.lines.tell_end.Goals as goal

pub returns-clause-told : goal.returns-clause-told
returns-clause-told g c =
    let first = alone (final c.args.transactions.now) ∷ [] in
    let rest = map_with_place view_line 0 (g.S.Store.state c.store.result.now).views in
    subst (λ (s : StoreState). OnOk c.tell_views.result (g.K.RecordSink.told c.args.sink.now c.tell_views.new.sink (first ++ map_with_place view_line 0 s.views))) c.store.ensures.store
    (if_ok c.tell_views.result c.tell_views.ensures.told (λ t. g.met.K.RecordSink.told_more c.args.sink.now c.push.new.self c.tell_views.new.sink first rest c.in_ok-push.ensures.told t))

pub returns-clause-memory : goal.returns-clause-memory
returns-clause-memory g c =
    let first = alone (final c.args.transactions.now) ∷ [] in
    if_err c.tell_views.result c.tell_views.ensures.memory (λ e h is. let t = h is in (
      first ++ t.0,
      (t.1.0, ap (λ l. first ++ l) (ap (λ (s : StoreState). map_with_place view_line 0 s.views) (sym c.store.ensures.store) ∙ t.1.1)),
      g.met.K.RecordSink.told_more c.args.sink.now c.push.new.self c.tell_views.new.sink first t.0 c.in_ok-push.ensures.told t.2,
    ))

pub returns-clause-failed : goal.returns-clause-failed
returns-clause-failed g c =
    let first = alone (final c.args.transactions.now) ∷ [] in
    if_err c.tell_views.result c.tell_views.ensures.failed (λ e h is. let t = h is in (
      first ++ t.0,
      (t.1.0, ap (λ l. first ++ l) (ap (λ (s : StoreState). map_with_place view_line 0 s.views) (sym c.store.ensures.store) ∙ t.1.1)),
      g.met.K.RecordSink.failed_later c.args.sink.now c.push.new.self c.tell_views.new.sink first t.0 c.in_ok-push.ensures.told t.2,
    ))
