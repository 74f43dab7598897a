use Rattle.std.proofs.Common.{◌∙◌, arith}
use Rattle.std.proofs.lemmas.List.{take_all}
use Rattle.whips_contents.specs.Events.{changes_of}
use Rattle.whips_core.proofs.Changed.{changes_long, taken_next, change_at}
use Rattle.whips_core.proofs.changes.changes_by.Goals as goal

pub loop-x-preserved : goal.loop-x-preserved
loop-x-preserved g c =
    taken_next (λ v. (v.0, v.1.items)) (changes_of 0 c.args.setup.now.views (g.S.Store.state c.args.store.now).views c.args.lists.now) c.loop-x.x c.loop-x.views.items c.push.new.self.items c.in_ok-view_changes.field-0 c.loop-x.invariant c.in_ok-push.ensures.items
    (change_at c.loop-x.x c.args.setup.now.views (g.S.Store.state c.args.store.now).views c.args.lists.now c.view.result.now c.current.result.now c.in_ok-view_changes.field-0.0 c.in_ok-view_changes.field-0.1.items c.view.ensures c.requires.views c.current.ensures c.in_ok-view_changes.ensures.rows c.in_ok-view_changes.ensures.changes)

pub returns : goal.returns
returns g c =
    let long = changes_long 0 c.args.setup.now.views (g.S.Store.state c.args.store.now).views c.args.lists.now c.requires.views in
    let past = c.loop-x-test.false in
    let count = c.views-count.ensures in
    c.loop-x.invariant ∙ take_all c.loop-x.x (changes_of 0 c.args.setup.now.views (g.S.Store.state c.args.store.now).views c.args.lists.now) (omega (arith, long, past, count))
