use Rattle.std.proofs.Common.{◌≡◌, ◌≤◌, ◌∙◌, sym, length, arith}
use Rattle.std.proofs.lemmas.Result.{on_ok_weaker}
use Rattle.whips_paint.specs.Bounds.{noted}
use Rattle.whips_paint.specs.declared.bounds.Bound.TheVariants.{Source}
use Rattle.whips_paint.proofs.Bounding.{noting_skip, noting_more, noting_all}
use Rattle.whips_paint.proofs.bounds.note_row.Goals as goal
use Rattle.whips_paint.proofs.bounds.note_row.Goals.{in-Some+in_ok-note, in_default}

pub loop-view-preserved : goal.loop-view-preserved
loop-view-preserved c =
    let side = c.args.side in
    let row = c.args.row.now in
    let was = c.args.bounds.now.items in
    elim c.match-bound.branch [
      | in-Some+in_ok-note w ↦ rw (w.bounds-is, w.in_ok-note.ensures) (noting_more side row was c.loop-view.bounds.items c.loop-view.view _ c.loop-view.invariant (sym c.bound.ensures ∙ w.in-Some.is))
      | in_default w ↦ rw w.bounds-is (noting_skip side row was c.loop-view.bounds.items c.loop-view.view c.loop-view.invariant (sym c.bound.ensures ∙ w.in_default.is))
    ]

pub returns : goal.returns
returns c =
    let all : length c.args.row.now.entries ≤ c.loop-view.view = omega (arith, c.views-view-end.ensures, c.loop-view-test.false) in
    on_ok_weaker c.note-2.result
    (λ (e : c.note-2.new.bounds.items ≡ noted c.args.side (Source c.source.result c.number.result) c.loop-view.bounds.items). rw (e, c.source.ensures, c.number.ensures) (noting_all c.args.side c.args.row.now c.args.bounds.now.items c.loop-view.bounds.items c.loop-view.view c.loop-view.invariant all))
    c.note-2.ensures
