use Rattle.std.proofs.Common.{subst}
use Rattle.std.specs.Prelude.{All}
use Rattle.whips_board.specs.History.{Explains}
use Rattle.whips_board.specs.Rule.{history_of, logs_of}
use Rattle.whips_board.proofs.Histories.{All-of_map}
use Rattle.whips_board.proofs.closing.close.Goals as goal

pub returns-clause-explained : goal.returns-clause-explained
returns-clause-explained g c =
    All-of_map (Explains c.args.board.first c.args.pen.history) (λ eye. eye.log) c.args.eyes.items
    (subst (λ m. All (Explains c.args.board.first (history_of m.0)) (logs_of m.0)) c.join_eyes-token.ensures.logs c.read_all.ensures.explained)
