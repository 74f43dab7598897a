-- What the log said of the phase still holds of the log once the row was read.
use Rattle.std.proofs.Common.{length, subst, sym}
use Rattle.whips_store_tests.proofs.looks.look_up.Goals as goal

pub returns-clause-phase : goal.returns-clause-phase
returns-clause-phase g c =
    let look = g.L.Look in
    let base = look.base c.args.look.now in
    let before = look.log c.args.look.now in
    let log = look.log c.phase-phase.new.self in
    let row = c.row-shown.ensures.said.3 in
    (length log, subst (λ l. look.phase_says base l (length before) c.phase-phase.result (length log)) (sym row.goes_on) (g.met.L.Look.phase_stays base log row.rest (length before) c.phase-phase.result (length log) c.phase-phase.ensures.said.said))
