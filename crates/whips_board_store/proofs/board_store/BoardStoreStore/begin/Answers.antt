use Rattle.whips_board_store.proofs.Calls.{begin_room, begin_seen}
use Rattle.whips_board_store.proofs.board_store.BoardStoreStore.begin.Goals as goal

pub invariant_of-self-2 : goal.invariant_of-self-2
invariant_of-self-2 g c =
    (begin_seen c.self.inside.setup.now c.self.inside.words c.store.new.self c.self.inside.plain c.begin.new.self c.args.self.now c.self.view_is c.self.invariant c.args.changes c.phase.result c.in_ok-begin.ensures.ok.0
    c.requires.quiet c.requires.phase c.requires.net c.in_ok-begin.ensures.ok.1 c.phase.ensures.sound c.phase.ensures.phase c.store.ensures).0

pub returns-clause-ok : goal.returns-clause-ok
returns-clause-ok g c = (
  begin_room c.self.inside.setup.now c.self.inside.words c.store.new.self c.self.inside.plain c.begin.new.self c.args.self.now c.self.view_is c.self.invariant c.args.changes c.phase.result c.in_ok-begin.ensures.ok.0,
  (begin_seen c.self.inside.setup.now c.self.inside.words c.store.new.self c.self.inside.plain c.begin.new.self c.args.self.now c.self.view_is c.self.invariant c.args.changes c.phase.result c.in_ok-begin.ensures.ok.0
      c.requires.quiet c.requires.phase c.requires.net c.in_ok-begin.ensures.ok.1 c.phase.ensures.sound c.phase.ensures.phase c.store.ensures).1,
)
