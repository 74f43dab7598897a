use Rattle.std.proofs.Common.{[], sym, ap, ◌∙◌}
use Rattle.whips_board.proofs.Steps.{opens, first_eye_splits}
use Rattle.whips_board.proofs.board.Board.make.Goals as goal

pub of_words-requires : goal.of_words-requires
of_words-requires g c = opens g.L.Law.allows (record { law = c.args.law; first = c.of.result }) c.deref.result.now (sym (c.of.ensures ∙ sym c.deref.ensures.value))

pub split_seat-requires : goal.split_seat-requires
split_seat-requires g c =
    let made = c.in_ok-words.ensures in (
      made.2,
      rw (made.0, c.deref.ensures.len) c.requires,
      first_eye_splits g.L.Law.allows c.in_ok-words.words.shared.key c.in_ok-words.token.id c.in_ok-words.token.me.0
          (record { law = c.args.law; first = c.of.result }) [] [] (ap (λ m. m.0) made.4),
    )
