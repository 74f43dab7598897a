use Rattle.std.proofs.Common.{◌<◌, arith, subst, sym, ap}
use Rattle.whips_view.specs.ViewDefs.{keyed, row_columns}
use Rattle.whips_managers.specs.Managers.{with_transaction}
use Rattle.whips_view.specs.Widths.{widths_of}
use Rattle.whips_managers.specs.Messages.{HaveWidths}
use Rattle.whips_strobe.specs.Strobes.{ManagerData}
use Rattle.whips_strobe.proofs.Sound.{sound_transaction, sound_listed, asks_sound, list_sound}
use Rattle.whips_strobe.proofs.manager.Manager.update.Goals as goal

pub invariant_of-self-2 : goal.invariant_of-self-2
invariant_of-self-2 c =
    let last = ap (λ (m : ManagerData). m.state.last) c.self.view_is in
    let lt : c.self.inside.state.last < c.args.number = omega arith in
    let widths : HaveWidths (keyed c.self.inside.view) (widths_of c.self.inside.view) c.args.t.now = subst (λ (m : ManagerData). HaveWidths (keyed m.view) (widths_of m.view) c.args.t.now) (sym c.self.view_is) c.requires.widths in
    let sound = sound_transaction c.self.inside.view c.self.inside.state c.args.number c.args.t.now lt widths (c.self.invariant c.if-self.false) in
    λ on. rw (c.hand_out-list.ensures.left, c.in_ok-take_transaction.ensures) (sound_listed c.self.inside.view (with_transaction (keyed c.self.inside.view) (row_columns c.self.inside.view) c.self.inside.state c.args.number c.args.t.now) sound)

pub returns-clause-asked : goal.returns-clause-asked
returns-clause-asked c =
    let last = ap (λ (m : ManagerData). m.state.last) c.self.view_is in
    let lt : c.self.inside.state.last < c.args.number = omega arith in
    let widths : HaveWidths (keyed c.self.inside.view) (widths_of c.self.inside.view) c.args.t.now = subst (λ (m : ManagerData). HaveWidths (keyed m.view) (widths_of m.view) c.args.t.now) (sym c.self.view_is) c.requires.widths in
    let sound = sound_transaction c.self.inside.view c.self.inside.state c.args.number c.args.t.now lt widths (c.self.invariant c.if-self.false) in
    rw (← c.self.view_is, c.in_ok-asks.ensures, c.in_ok-take_transaction.ensures) (asks_sound c.self.inside.view c.self.inside.view_number c.open_queries-first.result (with_transaction (keyed c.self.inside.view) (row_columns c.self.inside.view) c.self.inside.state c.args.number c.args.t.now) sound)

pub returns-clause-actions : goal.returns-clause-actions
returns-clause-actions c =
    let last = ap (λ (m : ManagerData). m.state.last) c.self.view_is in
    let lt : c.self.inside.state.last < c.args.number = omega arith in
    let widths : HaveWidths (keyed c.self.inside.view) (widths_of c.self.inside.view) c.args.t.now = subst (λ (m : ManagerData). HaveWidths (keyed m.view) (widths_of m.view) c.args.t.now) (sym c.self.view_is) c.requires.widths in
    let sound = sound_transaction c.self.inside.view c.self.inside.state c.args.number c.args.t.now lt widths (c.self.invariant c.if-self.false) in
    rw (← c.self.view_is, c.hand_out-list.ensures.list, c.in_ok-take_transaction.ensures) (list_sound c.self.inside.view c.self.inside.view_number (with_transaction (keyed c.self.inside.view) (row_columns c.self.inside.view) c.self.inside.state c.args.number c.args.t.now) sound)
