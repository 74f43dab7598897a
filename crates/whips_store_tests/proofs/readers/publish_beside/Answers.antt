-- A reader stays one while a version is committed.
use Rattle.std.proofs.Common.{subst, sym}
use Rattle.whips_store.specs.Calls.{published}
use Rattle.whips_faithful_laws.proofs.Scans.{publish_later}
use Rattle.whips_session_laws.specs.Readers.{IsReader}
use Rattle.whips_session_laws.proofs.Readers.{stays}
use Rattle.whips_store_tests.proofs.readers.publish_beside.Goals as goal

pub returns : goal.returns
returns g c =
    let store = g.S.Store.state c.args.store.now in
    subst (λ s. IsReader s c.args.session.now c.args.buf.now) (sym c.publish.ensures.published)
    (stays store (published store) c.args.session.now c.args.buf.now c.requires.reader (publish_later store))
