use Rattle.std.proofs.Common.{◌∙◌, sym, length, refl}
use Rattle.std.proofs.lemmas.Option.{slice_get_read}
use Rattle.whips_paint.proofs.Spreading.{bounded_skip, bounded_more}
use Rattle.whips_paint.proofs.marks.first_bounds.Goals as goal
use Rattle.whips_paint.proofs.marks.first_bounds.Goals.{then-not-is_clear+in_ok-note_row, else-not-is_clear}

pub loop-place-preserved : goal.loop-place-preserved
loop-place-preserved c =
    let side = c.args.side in
    let rows = c.args.rows.now in
    let marks = c.args.marks.now in
    let p = c.loop-place.place in
    elim c.if-not-is_clear.branch [
      | then-not-is_clear+in_ok-note_row w ↦ rw w.bounds-is (bounded_more side rows marks c.loop-place.bounds.items w.note_row.new.bounds.items p w.index-rows-place.result c.loop-place.invariant
          (slice_get_read rows (length rows) p w.index-rows-place.result refl c.loop-place-test.true w.index-rows-place.is)
          (sym c.is_clear.ensures ∙ w.if-not-is_clear.true) w.in_ok-note_row.ensures)
      | else-not-is_clear w ↦ rw w.bounds-is (bounded_skip side rows marks c.loop-place.bounds.items p c.loop-place.invariant (sym c.is_clear.ensures ∙ w.if-not-is_clear.false))
    ]
