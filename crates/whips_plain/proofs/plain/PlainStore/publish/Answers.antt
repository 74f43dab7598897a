use Rattle.std.proofs.Common.{◌≡◌, ◌%◌, None, sym, subst}
use Rattle.whips_store.specs.Stores.{StoreState, changes_left}
use Rattle.whips_plain.proofs.Kept.{published_kept}
use Rattle.whips_plain.proofs.plain.PlainStore.publish.Goals as goal

pub invariant_of-self : goal.invariant_of-self
invariant_of-self c =
    let s : StoreState = record { versions = c.self.inside.versions; phase = c.self.inside.phase; views = c.self.inside.views.items; past = None } in
    published_kept c.self.inside.left s c.publish_views.new.views.items c.self.invariant (subst (λ (s : StoreState). s.phase % 2 ≡ 1) (sym c.self.view_is) c.requires.active) (subst (λ s. changes_left s ≡ 0) (sym c.self.view_is) c.requires.made) c.publish_views.ensures
