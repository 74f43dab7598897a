use Rattle.whips_board_store.proofs.Calls.{close_carried}
use Rattle.whips_board_store.proofs.board_store.BoardStore.close.Goals as goal

pub returns-clause-carried : goal.returns-clause-carried
returns-clause-carried g c = close_carried c.self.inside.setup.now c.self.inside.words c.close.result c.self.inside.plain c.args.self c.self.invariant c.close.ensures c.self.view_is
