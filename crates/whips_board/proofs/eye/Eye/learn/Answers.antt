use Rattle.std.proofs.Common.{sym, ap, ◌∙◌}
use Rattle.whips_board.specs.Rule.{origin_of, log_of, history_of}
use Rattle.whips_board.proofs.Steps.{note_joins}
use Rattle.whips_board.proofs.eye.Eye.learn.Goals as goal

pub join_seat-requires : goal.join_seat-requires
join_seat-requires g c =
    let here = ap (λ v. v.board) c.self.view_is ∙ (c.requires.board ∙ sym c.board.view_is) in
    let there = ap (λ v. v.board) c.note.view_is ∙ (c.requires.note ∙ sym c.board.view_is) in (
      c.self.invariant.0 ∙ ap (λ b. b.table) here,
      c.note.invariant.0 ∙ ap (λ b. b.table) there,
      ap (λ m. m.1) c.note.invariant.1,
      rw c.board.invariant.0 c.board.invariant.1,
      note_joins g.L.Law.allows c.board.inside.words.shared.key c.self.inside.token.id c.self.inside.token.me.0
          (origin_of c.self.inside.board.value) (log_of c.self.inside.token.me.0) c.note.inside.token.id c.note.inside.token.me.0
          (origin_of c.note.inside.board.value) (history_of c.note.inside.token.me.0) (ap (λ m. m.0) c.self.invariant.1) (ap (λ m. m.0) c.note.invariant.1),
    )
