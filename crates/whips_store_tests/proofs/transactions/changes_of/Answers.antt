use Rattle.whips_store_tests.proofs.Handed.{handed}
use Rattle.whips_store_tests.proofs.transactions.changes_of.Goals as goal

pub returns : goal.returns
returns g c =
    let one = c.in_ok-one in
    let other = c.in_ok-other in
    rw c.in_ok-vec.ensures.items (handed (g.S.Store.state c.args.store.now) one.one.0 other.other.0 one.one.1.items other.other.1.items c.requires one.ensures.columns one.ensures.net other.ensures.columns other.ensures.net)
