use Rattle.std.proofs.Common.{◌<◌, None, sym, subst}
use Rattle.whips_store.specs.Stores.{StoreState, changes_left}
use Rattle.whips_plain.proofs.Kept.{changed_kept}
use Rattle.whips_plain.proofs.plain.PlainStore.change_next.Goals as goal

pub invariant_of-self : goal.invariant_of-self
invariant_of-self c =
    let s : StoreState = record { versions = c.self.inside.versions; phase = c.self.inside.phase; views = c.self.inside.views.items; past = None } in
    changed_kept c.self.inside.left s c.change_first.new.views.items c.self.invariant (subst (λ s. 0 < changes_left s) (sym c.self.view_is) c.requires) c.change_first.ensures
