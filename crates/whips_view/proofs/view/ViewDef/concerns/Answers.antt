use Rattle.std.proofs.Common.{◌≡◌, refl, sym, ◌∙◌}
use Rattle.whips_states.specs.Concerns.{concerns_update}
use Rattle.whips_states.proofs.Unconcerned.{update_keeps}
use Rattle.whips_view.proofs.view.ViewDef.concerns.Goals as goal

pub returns-clause-keeps : goal.returns-clause-keeps
returns-clause-keeps c =
    let same : c.meets_any.result ≡ concerns_update c.args.self.now.parts c.args.u.now = rw (c.meets_any.ensures, c.relations.ensures, c.relation.ensures, c.tuple.ensures, c.parts-parts.ensures.parts) refl in
    λ db sound valid e. update_keeps c.args.self.now.parts db c.args.u.now sound valid (sym same ∙ e)
