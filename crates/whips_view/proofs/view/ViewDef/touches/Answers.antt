use Rattle.std.proofs.Common.{◌≡◌, refl, sym, ◌∙◌}
use Rattle.whips_states.specs.Concerns.{concerns}
use Rattle.whips_states.proofs.Unconcerned.{transaction_keeps}
use Rattle.whips_view.proofs.view.ViewDef.touches.Goals as goal

pub returns-clause-keeps : goal.returns-clause-keeps
returns-clause-keeps c =
    let same : c.concerns_any.result ≡ concerns c.args.self.now.parts c.args.t.now = rw (c.concerns_any.ensures, c.deref.ensures.value, c.t.view_is) refl in
    λ db sound valid e. transaction_keeps c.args.self.now.parts db c.args.t.now sound valid (sym same ∙ e)
