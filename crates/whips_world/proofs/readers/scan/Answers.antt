use Rattle.std.proofs.Common.{refl}
use Rattle.whips_runs.specs.Sessions.{is_open}
use Rattle.whips_world.specs.Readers.{HasBegunScan}
use Rattle.whips_world.proofs.Reading.{changed_there}
use Rattle.whips_world.proofs.readers.scan.Goals as goal

pub returns-clause-ok : goal.returns-clause-ok
returns-clause-ok g c =
    changed_there (HasBegunScan (g.S.Store.state c.args.store.now) c.args.at.1) is_open refl c.args.readers.now c.args.at.0 c.index-readers-at.result c.scan_by.new.reader c.requires.«open» c.in_ok-scan_by.ensures
