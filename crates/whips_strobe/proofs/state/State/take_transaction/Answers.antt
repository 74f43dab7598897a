use Rattle.std.proofs.Common.{ap}
use Rattle.whips_managers.specs.Managers.{ManagerState}
use Rattle.whips_strobe.proofs.Insertions.{earlier_deleted}
use Rattle.whips_strobe.proofs.state.State.take_transaction.Goals as goal

pub insert_all-requires : goal.insert_all-requires
insert_all-requires c = rw c.in_ok-delete_all.ensures (earlier_deleted c.args.number c.deref.result.now (record { last = c.args.number; actions = c.self.inside.actions; queries = c.self.inside.queries }) (rw (ap (λ (m : ManagerState). m.queries) c.self.view_is) c.requires))
