use Rattle.std.proofs.Common.{◌≡◌, [], ◌∷◌, ◌++◌, sym, ap, ◌∙◌}
use Rattle.whips_board.specs.declared.view.View.TheVariants.{Pen}
use Rattle.whips_board.specs.Rule.{origin_of, history_of}
use Rattle.whips_board.proofs.Histories.{IsLawful-push}
use Rattle.whips_board.proofs.Steps.{stores_keep, pen_after_store}
use Rattle.whips_board.proofs.pen.Pen.store.Goals as goal

pub store-requires : goal.store-requires
store-requires g c =
    let board = ap (λ v. v.board) c.self.view_is ∙ c.requires.board in
    let history = ap (λ v. v.history) c.self.view_is in
    let here = board ∙ sym c.board.view_is in (
      c.self.invariant.0 ∙ ap (λ b. b.table) here,
      rw (c.board.invariant.0, ap (λ b. b.first) c.board.view_is) c.requires.place,
      stores_keep g.L.Law.allows c.board.inside.words.shared.key c.board.inside.words.shared.table_id.slots c.self.inside.token.id c.self.inside.token.me
          (origin_of c.self.inside.board.value) (history_of c.self.inside.token.me.0) [] c.args.i c.args.v c.self.invariant.1 (rw (board, history) c.requires.allowed),
    )

pub invariant_of-self : goal.invariant_of-self
invariant_of-self g c =
    let board = ap (λ v. v.board) c.self.view_is ∙ c.requires.board in
    let history = ap (λ v. v.history) c.self.view_is in
    let origin = origin_of c.self.inside.board.value in
    let stores = history_of c.self.inside.token.me.0 in
    let after = pen_after_store g.L.Law.allows origin c.self.inside.token.me c.store.new.seat.me origin stores c.args.i c.args.v c.self.invariant.1 c.store.ensures.2 in
    let now : history_of c.store.new.seat.me.0 ≡ stores ++ (c.args.i, c.args.v) ∷ [] = ap (λ m. history_of m.0) after in (
      c.store.ensures.0 ∙ c.self.invariant.0,
      after ∙ ap (λ h. (Pen origin h [], [])) (sym now),
      rw now (IsLawful-push (g.L.Law.allows c.self.inside.board.value.law) c.self.inside.board.value.first stores (c.args.i, c.args.v) c.self.invariant.2 (rw (board, history) c.requires.allowed)),
    )

pub returns-clause-lawful : goal.returns-clause-lawful
returns-clause-lawful g c =
    let board = ap (λ v. v.board) c.self.view_is ∙ c.requires.board in
    let history = ap (λ v. v.history) c.self.view_is in
    let origin = origin_of c.self.inside.board.value in
    let stores = history_of c.self.inside.token.me.0 in
    let after = pen_after_store g.L.Law.allows origin c.self.inside.token.me c.store.new.seat.me origin stores c.args.i c.args.v c.self.invariant.1 c.store.ensures.2 in
    let now : history_of c.store.new.seat.me.0 ≡ stores ++ (c.args.i, c.args.v) ∷ [] = ap (λ m. history_of m.0) after in
    rw (now, ← board) (IsLawful-push (g.L.Law.allows c.self.inside.board.value.law) c.self.inside.board.value.first stores (c.args.i, c.args.v) c.self.invariant.2 (rw (board, history) c.requires.allowed))
