use Rattle.std.proofs.Common.{◌≡◌, ◌∙◌, sym, ap, subst, length, true, refl}
use Rattle.std.proofs.lemmas.Option.{slice_get_read}
use Rattle.whips_paint.specs.Bounds.{draws}
use Rattle.whips_paint.proofs.Spreading.{one_row, grown_one}
use Rattle.whips_paint.proofs.marks.visit.Goals as goal

pub returns-clause-grown : goal.returns-clause-grown
returns-clause-grown c = λ _.
    let side = c.args.side in
    let rows = c.args.rows.now in
    let p = c.args.place in
    let first = slice_get_read rows (length rows) p c.index-rows-place.result refl c.requires.place c.index-rows-place.is in
    let here = slice_get_read rows (length rows) p c.index-rows-place-2.result refl c.requires.place c.index-rows-place-2.is in
    let looked = sym (ap (λ b. draws side b c.index-rows-place.result) c.deref.ensures.value) ∙ sym c.is_led.ensures ∙ c.if-not-is_led.false in
    let drawn = subst (λ r. draws side c.args.bounds.now.items r ≡ true) (one_row rows p p c.index-rows-place-2.result c.index-rows-place.result here first refl) looked in
    grown_one side rows c.args.marks.now c.args.bounds.now.items c.note_row.new.bounds.items p c.index-rows-place-2.result here c.requires.size (sym c.is_clear.ensures ∙ c.if-not-is_clear.false) drawn c.in_ok-note_row.ensures
