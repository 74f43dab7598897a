use Rattle.std.proofs.Common.{set, sym, ap, ◌∙◌, arith}
use Rattle.whips_board.proofs.Histories.{words_after-push}
use Rattle.whips_board_store.specs.Words.{words_now}
use Rattle.whips_board_store.proofs.Changed.{words_count}
use Rattle.whips_board_store.proofs.board_words.BoardWords.store.Goals as goal

pub index_mut-requires : goal.index_mut-requires
index_mut-requires g c = let n = words_count c.self.inside.words.items c.self.inside.pen c.args.self.now c.self.view_is c.self.invariant.1 in omega (arith, n, c.requires.place)

pub invariant_of-self : goal.invariant_of-self
invariant_of-self g c = (
  ap (λ p. p.board) c.store.ensures.stored ∙ c.self.invariant.0,
  ap (λ l. set l c.args.place c.args.value) c.self.invariant.1 ∙ sym (words_after-push c.self.inside.pen.board.first c.self.inside.pen.history (c.args.place, c.args.value)) ∙ sym (ap words_now c.store.ensures.stored),
)
