use Rattle.std.proofs.Common.{slice_index, ap, ◌∙◌, arith}
use Rattle.whips_board_store.specs.Words.{words_now}
use Rattle.whips_board_store.proofs.Changed.{words_count, word_there}
use Rattle.whips_board_store.proofs.board_words.BoardWords.word.Goals as goal

pub index-requires : goal.index-requires
index-requires g c = let n = words_count c.self.inside.words.items c.self.inside.pen c.args.self.now c.self.view_is c.self.invariant.1 in omega (arith, n, c.requires)

pub returns : goal.returns
returns g c =
    let n = words_count c.self.inside.words.items c.self.inside.pen c.args.self.now c.self.view_is c.self.invariant.1 in
    c.index.ensures ∙ word_there c.self.inside.words.items c.args.place c.index.result.now 0 (omega (arith, n, c.requires)) ∙ ap (λ l. slice_index l c.args.place) (c.self.invariant.1 ∙ ap words_now c.self.view_is)
