use Rattle.std.proofs.Common.{arith}
use Rattle.whips_board_store.proofs.Calls.{over_kept}
use Rattle.whips_board_store.proofs.board_store.BoardStore.over.Goals as goal

pub invariant_of-result : goal.invariant_of-result
invariant_of-result g c =
    let size = c.in_ok-words.ensures.size in
    over_kept c.args.setup.now c.args.pen c.over.result c.args.board.now c.in_ok-plain.plain c.sources-sound.ensures.sound c.requires.law c.requires.first (omega (arith, size.0, size.1)) c.in_ok-plain.ensures.made c.requires.pen c.over.ensures
