use Rattle.std.proofs.Common.{sym, ap, ◌∙◌, subst}
use Rattle.whips_board.specs.Rule.{origin_of, log_of, after_load, HasExplainedLog}
use Rattle.whips_board.proofs.Histories.{load_after_note}
use Rattle.whips_board.proofs.Steps.{loads_keep}
use Rattle.whips_board.proofs.eye.Eye.load.Goals as goal

pub load-requires : goal.load-requires
load-requires g c =
    let here = ap (λ v. v.board) c.self.view_is ∙ (c.requires.board ∙ sym c.board.view_is) in (
      c.self.invariant.0 ∙ ap (λ b. b.table) here,
      rw (c.board.invariant.0, ap (λ b. b.first) c.board.view_is) c.requires.place,
      loads_keep g.L.Law.allows c.board.inside.words.shared.key c.board.inside.words.shared.table_id.slots c.self.inside.token.id c.self.inside.token.me
          (origin_of c.self.inside.board.value) (log_of c.self.inside.token.me.0) c.args.i c.self.invariant.1,
    )

pub returns-clause-after_notes : goal.returns-clause-after_notes
returns-clause-after_notes g c = λ note has.
    let board = ap (λ v. v.board) c.self.view_is ∙ c.requires.board in
    let log = ap (λ v. v.log) c.self.view_is in
    let explained = subst (λ v. HasExplainedLog g.L.Law.allows (after_load v c.args.i c.load.result)) (ap (λ m. m.0) c.self.invariant.1) c.load.ensures.2.1 in
    rw (← board) (load_after_note (g.L.Law.allows c.self.inside.board.value.law) c.self.inside.board.value.first explained.0 note c.args.i c.load.result (log_of c.self.inside.token.me.0) explained.1 explained.2 (rw log has))
