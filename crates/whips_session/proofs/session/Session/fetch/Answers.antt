-- The calls of the visit and then that of the phase, as the session's scan has them.
use Rattle.std.proofs.Common.{◌≡◌, ◌+◌, sym, subst, ◌∙◌, arith}
use Rattle.std.specs.Prelude.{Some, min}
use Rattle.whips_store.specs.Reads.{PhaseSaid}
use Rattle.whips_session.specs.Sessions.{scan_in}
use Rattle.whips_session.proofs.Logs.{scan_said, shape_kept, next_buffer}
use Rattle.whips_session.proofs.session.Session.fetch.Goals as goal

pub returns-clause-said : goal.returns-clause-said
returns-clause-said g c =
    let look = g.L.Look in
    let base = look.base c.args.look.now in
    let before = look.log c.args.look.now in
    let after = look.log c.visit.new.look in
    let place = c.in-Some.place in
    let to = c.min-to.result in
    let is : c.args.self.now.scan ≡ Some place = sym c.scanning.ensures ∙ c.in-Some.is in
    let end : to ≡ min (place.1 + c.args.n) c.args.slots = omega (arith, c.saturating_add.ensures, c.min-to.ensures, c.ranges.slots.fits) in
    scan_said look.phase_says look.row_says base before after (look.log c.phase-phase.new.self) c.args.self.now place c.args.n c.args.slots to c.args.buf.now c.visit.new.buf c.phase-phase.result is end
    c.visit.ensures.rows
    (subst (λ b. PhaseSaid look.phase_says b after (look.log c.phase-phase.new.self) c.phase-phase.result) c.visit.ensures.base c.phase-phase.ensures.said)

pub returns-clause-buffer : goal.returns-clause-buffer
returns-clause-buffer g c =
    let look = g.L.Look in
    let base = look.base c.args.look.now in
    let place = c.in-Some.place in
    let to = c.min-to.result in
    let is : c.args.self.now.scan ≡ Some place = sym c.scanning.ensures ∙ c.in-Some.is in
    let end : to ≡ min (place.1 + c.args.n) c.args.slots = omega (arith, c.saturating_add.ensures, c.min-to.ensures, c.ranges.slots.fits) in
    next_buffer look.row_says base (look.log c.args.look.now) (look.log c.visit.new.look) (look.columns base (scan_in c.args.self.now).view) c.args.self.now c.end_visit.new.self place c.args.n c.args.slots to c.phase-phase.result c.args.buf.now c.visit.new.buf is end
    c.visit.ensures.rows
    c.end_visit.ensures.session
    c.requires.buffer

pub returns-clause-kept : goal.returns-clause-kept
returns-clause-kept g c = shape_kept c.visit.ensures.rows.seen c.args.buf.now c.visit.new.buf c.visit.ensures.rows.put
