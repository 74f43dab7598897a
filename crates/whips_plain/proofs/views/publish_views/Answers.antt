use Rattle.std.proofs.Common.{sym, ap, ◌∙◌}
use Rattle.std.proofs.Math.ListN.{set}
use Rattle.std.proofs.lemmas.List.Edits.{map_over_more}
use Rattle.whips_store.specs.Stores.{ViewState}
use Rattle.whips_plain.proofs.views.publish_views.Goals as goal

pub loop-view-preserved : goal.loop-view-preserved
loop-view-preserved c =
    ap (set c.loop-view.view-items c.loop-view.view-index) (c.publish.ensures ∙ ap (λ (v : ViewState). record v { current = v.next }) (sym c.view-item.is))
    ∙ map_over_more (λ (v : ViewState). record v { current = v.next }) c.deref_mut-view-items.result.now c.loop-view.view-items c.loop-view.view-index c.view-item.result c.loop-view-test.true c.loop-view.invariant c.view-item.is
