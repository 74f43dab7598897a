use Rattle.std.proofs.Common.{◌∙◌, length, refl, sym, ap}
use Rattle.std.proofs.lemmas.Option.{slice_get_read}
use Rattle.whips_paint.specs.Bounds.{is_past}
use Rattle.whips_paint.proofs.Spreading.{sweeping_all, sweeping_past}
use Rattle.whips_paint.proofs.marks.sweep.Goals as goal

pub returns-then-is_past-clause-told : goal.returns-then-is_past-clause-told
returns-then-is_past-clause-told c =
    let rows = c.args.rows.now in
    let p = c.loop-place.place in
    let r = c.index-rows-place.result in
    let here = slice_get_read rows (length rows) p r refl c.loop-place-test.true c.index-rows-place.is in
    let past = sym (ap (λ b. is_past c.args.side b r.number) c.deref.ensures.value) ∙ sym c.is_past.ensures ∙ c.if-is_past.true in
    sweeping_past c.args.side rows c.requires.order c.args.marks.now c.loop-place.marks c.args.bounds.now.items c.loop-place.bounds.items p c.loop-place.grew r c.loop-place.invariant here past

pub returns-clause-told : goal.returns-clause-told
returns-clause-told c = sweeping_all c.args.side c.args.rows.now c.args.marks.now c.loop-place.marks c.args.bounds.now.items c.loop-place.bounds.items c.loop-place.place c.loop-place.grew c.loop-place.invariant c.loop-place-test.false
