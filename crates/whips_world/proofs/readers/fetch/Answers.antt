use Rattle.std.proofs.Common.{refl}
use Rattle.std.specs.Prelude.{is_some}
use Rattle.whips_runs.specs.Sessions.{scan_of}
use Rattle.whips_world.specs.Readers.{HasFetchedFrom}
use Rattle.whips_world.proofs.Errors.{if_ok, if_err}
use Rattle.whips_world.proofs.Reading.{changed_there}
use Rattle.whips_world.proofs.readers.fetch.Goals as goal

pub returns-clause-told : goal.returns-clause-told
returns-clause-told g c =
    let store = g.S.Store.state c.args.store.now in
    if_ok c.fetch_by.result c.fetch_by.ensures.told (λ t. (
      t.0,
      changed_there (λ r u. HasFetchedFrom store c.args.at.0 c.args.at.1 r u t.0) (λ o. is_some (scan_of o)) refl c.args.readers.now c.args.at.0 c.index-readers-at.result c.fetch_by.new.reader c.requires.scans t.1,
      t.2,
    ))

pub returns-clause-failed : goal.returns-clause-failed
returns-clause-failed g c =
    let store = g.S.Store.state c.args.store.now in
    if_err c.fetch_by.result c.fetch_by.ensures.failed (λ e h is. let t = h is in (
      t.0,
      changed_there (λ r u. HasFetchedFrom store c.args.at.0 c.args.at.1 r u t.0) (λ o. is_some (scan_of o)) refl c.args.readers.now c.args.at.0 c.index-readers-at.result c.fetch_by.new.reader c.requires.scans t.1,
      t.2,
    ))
