use Rattle.std.proofs.Common.{◌≡◌, List, length, arith, ap, subst}
use Rattle.std.specs.Prelude.{slice_get, IfSome}
use Rattle.whips_view.specs.ViewDefs.{keyed}
use Rattle.whips_managers.specs.Managers.{Query, ManagerState, moved_on}
use Rattle.whips_managers.specs.Messages.{ask_of}
use Rattle.whips_strobe.specs.Outs.{sent_by}
use Rattle.whips_strobe.proofs.Replies.{length_changed, changed_get}
use Rattle.whips_strobe.proofs.state.State.advance.Goals as goal

pub ask-requires : goal.ask-requires
ask-requires c =
    let size = ap (λ (m : ManagerState). length m.queries) c.self.view_is in
    let same = length_changed (λ q. moved_on q c.args.partials) c.self.inside.queries c.args.i in
    let new = ap length c.move_on.ensures in
    omega arith

pub returns-clause-ask : goal.returns-clause-ask
returns-clause-ask c = rw (← ap (λ (m : ManagerState). m.queries) c.self.view_is) (changed_get (λ q. moved_on q c.args.partials) c.in_ok-sent.sent c.args.number (keyed c.args.view.now) c.self.inside.queries c.args.i
    (subst (λ (qs : List Query). IfSome (slice_get qs c.args.i) (λ q. c.in_ok-sent.sent ≡ sent_by c.args.number (ask_of (keyed c.args.view.now) q))) c.move_on.ensures c.in_ok-sent.ensures))
