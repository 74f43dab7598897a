use Rattle.std.proofs.Common.{◌≡◌, map, rules, sym, ap, ◌∙◌, subst}
use Rattle.std.proofs.lemmas.Iterator.Adapters.{YieldsList-from_vec}
use Rattle.std.proofs.lemmas.Iterator.Consumers.{YieldsList-turn}
use Rattle.whips_board.specs.Rule.{origin_of, log_of}
use Rattle.whips_board.proofs.Steps.{eye_joins}
use Rattle.whips_board.proofs.closing.join_eyes.Goals as goal

pub join_seat-requires : goal.join_seat-requires
join_seat-requires g c =
    let turn = YieldsList-turn (YieldsList-from_vec c.args.eyes.items (search rules) (search rules)) c.loop-eye.yielded _ c.loop-eye.yielded_by _ c.next.new.self c.in-Some.eye c.in-Some.is c.next.ensures.steps in
    let of : c.in-Some.eye.board ≡ c.args.board.now = subst (λ eye. eye.board ≡ c.args.board.now) (sym turn.1) (c.requires.eyes _ c.in-Some.eye turn.0) in
    let there = ap (λ v. v.board) c.eye.view_is ∙ (of ∙ sym c.board.view_is) in (
      c.loop-eye.invariant.0 ∙ sym (ap (λ b. b.table) c.board.view_is),
      c.eye.invariant.0 ∙ ap (λ b. b.table) there,
      ap (λ m. m.1) c.eye.invariant.1,
      rw c.board.invariant.0 c.board.invariant.1,
      eye_joins g.L.Law.allows c.board.inside.words.shared.key c.loop-eye.token.id c.loop-eye.token.me.0
          (origin_of c.args.board.now) c.args.pen.history (map (λ eye. eye.log) c.loop-eye.yielded) c.eye.inside.token.id c.eye.inside.token.me.0
          (origin_of c.eye.inside.board.value) (log_of c.eye.inside.token.me.0) (ap (λ m. m.0) c.loop-eye.invariant.1) (ap (λ m. m.0) c.eye.invariant.1),
    )
