use Rattle.std.proofs.Common.{◌≡◌, ◌==◌, ap, subst, sym, ◌∙◌}
use Rattle.std.specs.Prelude.{IfSome}
use Rattle.whips_managers.specs.Managers.{Query}
use Rattle.whips_strobe.proofs.Replies.{named_at, open_at, open_nowhere, get_below}
use Rattle.whips_strobe.proofs.state.State.is_open.Goals as goal

pub step-requires : goal.step-requires
step-requires c =
    let found = named_at c.args.transaction c.args.origin c.self.inside.queries c.in-Some.i (sym c.in-Some.ensures.place) in
    get_below c.self.inside.queries c.in-Some.i found.0 found.1

pub returns-in-Some : goal.returns-in-Some
returns-in-Some c =
    let found = named_at c.args.transaction c.args.origin c.self.inside.queries c.in-Some.i (sym c.in-Some.ensures.place) in
    let step : c.step.result ≡ found.0.step = subst (λ o. IfSome o (λ (q : Query). c.step.result ≡ q.step)) found.1 c.step.ensures in
    rw (← c.self.view_is) (ap (λ n. n == c.args.step) step ∙ sym (open_at c.args.transaction c.args.origin c.args.step c.self.inside.queries c.in-Some.i found.0 c.in-Some.ensures.in_order (sym c.in-Some.ensures.place) found.1))

pub returns-in-None : goal.returns-in-None
returns-in-None c = rw (← c.self.view_is) (sym (open_nowhere c.args.transaction c.args.origin c.args.step c.self.inside.queries (sym c.in-None.ensures.place)))
