-- A scan that begins is a reader's.
use Rattle.std.proofs.Common.{[], Some, refl, subst, sym}
use Rattle.whips_session_laws.specs.Readers.{IsReader}
use Rattle.whips_session_laws.proofs.Readers.{scans}
use Rattle.whips_store_tests.proofs.readers.scan_first.Goals as goal

pub returns : goal.returns
returns g c =
    let store = g.S.Store.state c.args.store.now in
    subst (λ s. IsReader store s c.scan.new.buf) (sym c.scan.ensures.session)
    (subst (λ b. IsReader store (record c.args.session.now { scan = Some (0, 0) }) b) (sym c.scan.ensures.buffer)
    (scans store c.args.session.now 0 c.args.buf.now (record c.args.buf.now { rows = [] }) c.requires.reader c.requires.view c.requires.columns c.requires.room refl))
