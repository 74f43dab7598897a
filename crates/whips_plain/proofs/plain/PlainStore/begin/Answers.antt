use Rattle.std.proofs.Common.{◌≡◌, ◌%◌, ◌<◌, None, List, refl, sym, ap, subst, ◌∙◌}
use Rattle.std.specs.Prelude.{◌^◌}
use Rattle.whips_store.specs.Stores.{StoreState, ViewState}
use Rattle.whips_store.specs.Calls.{AreNet, views_with}
use Rattle.whips_plain.proofs.Kept.{begun_from}
use Rattle.whips_plain.proofs.plain.PlainStore.begin.Goals as goal

pub invariant_of-self-in-Some : goal.invariant_of-self-in-Some
invariant_of-self-in-Some c =
    let s : StoreState = record { versions = c.self.inside.versions; phase = c.self.inside.phase; views = c.self.inside.views.items; past = None } in
    begun_from (λ view. (view.0, view.1.items)) c.self.inside.left c.in-Some.left s c.args.changes c.put_changes.new.views.items c.self.inside.views.items c.changes.inside.views.items c.deref.result.now c.deref-2.result.now c.self.invariant
    (subst (λ (s : StoreState). s.phase % 2 ≡ 0) (sym c.self.view_is) c.requires.quiet) (subst (λ (s : StoreState). s.phase < 2 ^ 62) (sym c.self.view_is) c.requires.phase) (subst (λ (s : StoreState). AreNet s.views c.args.changes) (sym c.self.view_is) c.requires.net)
    c.changes.view_is refl c.deref.ensures.value c.deref-2.ensures.value c.in_ok-check_views.ensures.ok c.in-Some.ensures.tables c.in-Some.ensures.count (c.put_changes.ensures ∙ ap (λ (l : List ViewState). views_with l c.args.changes) c.in_ok-check_views.ensures.same)
