-- Each turn adds one call to what the log says.
use Rattle.std.proofs.Common.{◌+◌, refl, subst, ◌∙◌, arith}
use Rattle.whips_store.specs.Reads.{RowSaid}
use Rattle.whips_session.specs.Sessions.{scan_from}
use Rattle.whips_session.proofs.Logs.{one_visited, none_said, one_said, rows_to}
use Rattle.whips_session.proofs.session.Session.visit.Goals as goal

pub loop-i-init : goal.loop-i-init
loop-i-init g c = let look = g.L.Look in record {
  base = refl;
  within = omega arith;
  buffer = c.requires.buffer;
  rows = none_said look.row_says (look.base c.args.look.now) (look.log c.args.look.now) (scan_from c.args.self.now.version c.args.place) c.args.place.1 c.args.buf.now refl;
}

pub loop-i-preserved : goal.loop-i-preserved
loop-i-preserved g c =
    let look = g.L.Look in
    let base = look.base c.args.look.now in
    let scan = scan_from c.args.self.now.version c.args.place in
    let before = look.log c.loop-i.look in
    let after = look.log c.row-shown.new.self in
    let seen = c.row-shown.ensures.said.0 in
    let put = c.row-shown.ensures.said.2 in
    let inv = c.loop-i.invariant in
    record {
      base = c.row-shown.ensures.base ∙ inv.base;
      within = omega (arith, inv.within, c.loop-i-test.true, c.loop-i.auto.i);
      buffer = one_visited (look.columns base c.args.place.0) c.args.to c.loop-i.i (c.loop-i.i + 1) seen c.loop-i.buf c.row-shown.new.into (omega arith) inv.buffer put;
      rows = one_said look.row_says base g.met.L.Look.row_stays (look.log c.args.look.now) before after scan c.loop-i.i seen c.args.buf.now c.loop-i.buf c.row-shown.new.into c.loop-i.auto.i inv.rows
          (subst (λ b. RowSaid look.row_says b before after scan.view c.loop-i.i scan.version seen) inv.base
          (subst (λ v. RowSaid look.row_says (look.base c.loop-i.look) before after scan.view c.loop-i.i v seen) c.version-v.ensures c.row-shown.ensures.said.3)) put;
    }

pub returns-clause-rows : goal.returns-clause-rows
returns-clause-rows g c =
    let look = g.L.Look in
    let scan = scan_from c.args.self.now.version c.args.place in
    rows_to look.row_says (look.base c.args.look.now) (look.log c.args.look.now) (look.log c.loop-i.look) scan c.loop-i.i c.args.to c.args.buf.now c.loop-i.buf
    (omega (arith, c.loop-i.invariant.within, c.loop-i-test.false)) c.loop-i.invariant.rows
