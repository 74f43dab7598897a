use Rattle.whips_board_store.proofs.Calls.{publish_seen}
use Rattle.whips_board_store.proofs.board_store.BoardStoreStore.publish.Goals as goal

pub invariant_of-self : goal.invariant_of-self
invariant_of-self g c =
    (publish_seen c.self.inside.setup.now c.self.inside.words c.store.new.self c.self.inside.plain c.publish.new.self c.args.self.now c.self.view_is c.self.invariant c.phase.result
    c.requires.active c.requires.made c.publish.ensures.published c.phase.ensures.phase c.store.ensures).0

pub returns-clause-published : goal.returns-clause-published
returns-clause-published g c =
    (publish_seen c.self.inside.setup.now c.self.inside.words c.store.new.self c.self.inside.plain c.publish.new.self c.args.self.now c.self.view_is c.self.invariant c.phase.result
    c.requires.active c.requires.made c.publish.ensures.published c.phase.ensures.phase c.store.ensures).1
