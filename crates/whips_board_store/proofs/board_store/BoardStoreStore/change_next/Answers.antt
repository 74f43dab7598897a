use Rattle.whips_board_store.proofs.Calls.{change_seen}
use Rattle.whips_board_store.proofs.board_store.BoardStoreStore.change_next.Goals as goal

pub invariant_of-self : goal.invariant_of-self
invariant_of-self g c = (change_seen c.self.inside.setup.now c.self.inside.words c.store_next.new.words c.self.inside.plain c.change_next.new.self c.args.self.now c.self.view_is c.self.invariant c.store_next.ensures c.change_next.ensures.changed).0

pub returns-clause-changed : goal.returns-clause-changed
returns-clause-changed g c = (change_seen c.self.inside.setup.now c.self.inside.words c.store_next.new.words c.self.inside.plain c.change_next.new.self c.args.self.now c.self.view_is c.self.invariant c.store_next.ensures c.change_next.ensures.changed).1
