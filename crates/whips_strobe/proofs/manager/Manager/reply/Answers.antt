use Rattle.std.proofs.Common.{subst, sym}
use Rattle.whips_view.specs.ViewDefs.{keyed, row_columns}
use Rattle.whips_managers.specs.Managers.{with_reply}
use Rattle.whips_strobe.specs.Strobes.{ManagerData, FitsManager}
use Rattle.whips_strobe.proofs.Sound.{sound_reply, sound_asked, sound_listed, list_sound}
use Rattle.whips_strobe.proofs.manager.Manager.reply.Goals as goal

pub invariant_of-self-2 : goal.invariant_of-self-2
invariant_of-self-2 c =
    let fits : FitsManager (record { number = c.self.inside.view_number; view = c.self.inside.view; stopped = c.self.inside.stopped; state = c.self.inside.state }) c.args.r = subst (λ (m : ManagerData). FitsManager m c.args.r) (sym c.self.view_is) c.requires in
    let sound = sound_reply c.self.inside.view c.self.inside.state c.args.r.update c.args.r.origin c.args.r.step c.args.r.partials fits.query (c.self.invariant c.if-self.false) c.in_ok-asks.ensures.in_order in
    λ on. rw (c.hand_out-list.ensures.left, c.in_ok-asks.ensures.state) (sound_listed c.self.inside.view (with_reply (keyed c.self.inside.view) (row_columns c.self.inside.view) c.self.inside.state c.args.r.update c.args.r.origin c.args.r.partials) sound)

pub returns-clause-asked : goal.returns-clause-asked
returns-clause-asked c =
    let fits : FitsManager (record { number = c.self.inside.view_number; view = c.self.inside.view; stopped = c.self.inside.stopped; state = c.self.inside.state }) c.args.r = subst (λ (m : ManagerData). FitsManager m c.args.r) (sym c.self.view_is) c.requires in
    rw (← c.self.view_is, c.in_ok-asks.ensures.asks) (sound_asked c.self.inside.view c.self.inside.state c.args.r.update c.args.r.origin c.args.r.step c.args.r.partials fits.query (c.self.invariant c.if-self.false) c.args.r.view c.in_ok-asks.ensures.in_order)

pub returns-clause-actions : goal.returns-clause-actions
returns-clause-actions c =
    let fits : FitsManager (record { number = c.self.inside.view_number; view = c.self.inside.view; stopped = c.self.inside.stopped; state = c.self.inside.state }) c.args.r = subst (λ (m : ManagerData). FitsManager m c.args.r) (sym c.self.view_is) c.requires in
    let sound = sound_reply c.self.inside.view c.self.inside.state c.args.r.update c.args.r.origin c.args.r.step c.args.r.partials fits.query (c.self.invariant c.if-self.false) c.in_ok-asks.ensures.in_order in
    rw (← c.self.view_is, c.hand_out-list.ensures.list, c.in_ok-asks.ensures.state) (list_sound c.self.inside.view c.self.inside.view_number (with_reply (keyed c.self.inside.view) (row_columns c.self.inside.view) c.self.inside.state c.args.r.update c.args.r.origin c.args.r.partials) sound)
