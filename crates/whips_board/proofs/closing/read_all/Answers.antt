use Rattle.std.proofs.Common.{◌≡◌, length, sym, ap, ◌∙◌, arith}
use Rattle.std.proofs.lemmas.List.{take_all}
use Rattle.whips_board.specs.History.{words_after}
use Rattle.whips_board.specs.Rule.{origin_of, history_of, logs_of}
use Rattle.whips_board.proofs.Histories.{length-words_after, take-words}
use Rattle.whips_board.proofs.Steps.{last_reads_keep, last_word}
use Rattle.whips_board.proofs.closing.read_all.Goals as goal

pub load-requires : goal.load-requires
load-requires g c = (
  c.loop-i.invariant.table ∙ sym (ap (λ b. b.table) c.board.view_is),
  rw (← c.word_count-i-end.ensures) c.loop-i-test.true,
  last_reads_keep g.L.Law.allows c.board.inside.words.shared.key c.board.inside.words.shared.table_id.slots c.loop-i.token.id c.loop-i.token.me
      (origin_of c.args.board.now) (history_of c.args.token.now.me.0) (logs_of c.args.token.now.me.0) c.loop-i.i (c.loop-i.invariant.view ∙ c.requires.pen),
)

pub loop-i-preserved : goal.loop-i-preserved
loop-i-preserved g c =
    let first = c.args.board.now.first in
    let history = history_of c.args.token.now.me.0 in
    let count : c.word_count-i-end.result ≡ length (words_after first history) =
    c.word_count-i-end.ensures ∙ c.board.invariant.0 ∙ ap (λ b. length b.first) c.board.view_is ∙ sym (length-words_after first history) in
    let last =
    last_word g.L.Law.allows c.board.inside.words.shared.key c.loop-i.token.me.0 (origin_of c.args.board.now) history (logs_of c.args.token.now.me.0) c.loop-i.i c.load.result
    (ap (λ m. m.0) (c.loop-i.invariant.view ∙ c.requires.pen)) c.load.ensures.2.1 in
    record {
      table = rw c.load.ensures.0 c.loop-i.invariant.table;
      view = rw c.load.ensures.2.0 c.loop-i.invariant.view;
      items = rw (c.push_reserved.ensures.items, c.loop-i.invariant.items) (sym (take-words (words_after first history) c.loop-i.i c.load.result (rw (← count) c.loop-i-test.true) last.0));
      count = omega (arith, c.push_reserved.ensures.len, c.loop-i.invariant.count);
      capacity = rw c.push_reserved.ensures.capacity c.loop-i.invariant.capacity;
      explained = λ _. last.1;
    }

pub returns-clause-words : goal.returns-clause-words
returns-clause-words g c =
    let first = c.args.board.now.first in
    let history = history_of c.args.token.now.me.0 in
    let count : c.word_count-i-end.result ≡ length (words_after first history) =
    c.word_count-i-end.ensures ∙ c.board.invariant.0 ∙ ap (λ b. length b.first) c.board.view_is ∙ sym (length-words_after first history) in
    c.loop-i.invariant.items ∙ take_all c.loop-i.i (words_after first history) (rw (← count) c.loop-i-test.false)
