use Rattle.std.proofs.Common.{sym, ap, ◌∙◌}
use Rattle.whips_board.specs.Rule.{origin_of, log_of}
use Rattle.whips_board.proofs.Steps.{eye_splits}
use Rattle.whips_board.proofs.eye.Eye.split.Goals as goal

pub split_seat-requires : goal.split_seat-requires
split_seat-requires g c =
    let here = ap (λ v. v.board) c.self.view_is ∙ (c.requires ∙ sym c.board.view_is) in (
      c.self.invariant.0 ∙ ap (λ b. b.table) here,
      rw c.board.invariant.0 c.board.invariant.1,
      eye_splits g.L.Law.allows c.board.inside.words.shared.key c.self.inside.token.id c.self.inside.token.me.0
          (origin_of c.self.inside.board.value) (log_of c.self.inside.token.me.0) (ap (λ m. m.0) c.self.invariant.1),
    )
