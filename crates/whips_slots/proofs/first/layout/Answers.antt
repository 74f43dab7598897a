use Rattle.std.proofs.Common.{◌≡◌, ◌≤◌, length, vec_len, sym, ap, subst, ◌∙◌, arith, rules}
use Rattle.whips_lists.proofs.ByPlace.{get_there}
use Rattle.whips_model.specs.Relation.{Table}
use Rattle.whips_slots.proofs.Small.{setup_columns, setup_slots, board_small}
use Rattle.whips_slots.proofs.Layouts.{laid_more, laid_all, setup_room, first_count}
use Rattle.whips_slots.proofs.first.layout.Goals as goal

pub put_view-requires-clause-width : goal.put_view-requires-clause-width
put_view-requires-clause-width c =
    let s = c.args.setup.now in
    let past = c.loop-x-test.true in
    let end = c.views-x-end.ensures in
    let there = get_there c.loop-x.x s.views (omega (arith, past, end)) in
    subst (λ (t : Table). length t.columns.kinds ≤ 16) (sym (c.value.ensures there.0 there.1)) (setup_columns s c.sources-sound.ensures.sound c.loop-x.x there.0 there.1)

pub put_view-requires-clause-slots : goal.put_view-requires-clause-slots
put_view-requires-clause-slots c = setup_slots c.args.setup.now c.sources-sound.ensures.sound c.loop-x.x c.slots.result c.slots.ensures

pub put_view-requires-clause-room : goal.put_view-requires-clause-room
put_view-requires-clause-room c =
    let s = c.args.setup.now in
    let past = c.loop-x-test.true in
    let end = c.views-x-end.ensures in
    let there = get_there c.loop-x.x s.views (omega (arith, past, end)) in
    subst (λ (t : Table). length t.rows ≤ c.slots.result) (sym (c.value.ensures there.0 there.1)) (setup_room s c.sources-sound.ensures.sound c.loop-x.x c.slots.result there.0 there.1 c.slots.ensures)

pub loop-x-preserved : goal.loop-x-preserved
loop-x-preserved c =
    let s = c.args.setup.now in
    let past = c.loop-x-test.true in
    let end = c.views-x-end.ensures in
    let there = get_there c.loop-x.x s.views (omega (arith, past, end)) in
    laid_more s c.loop-x.x c.slots.result c.versions.result there.0 c.value.result.now c.loop-x.words.items c.put_view.new.words.items there.1 c.slots.ensures c.versions.ensures (c.value.ensures there.0 there.1) c.loop-x.invariant c.in_ok-put_view.ensures

pub returns-clause-words : goal.returns-clause-words
returns-clause-words c =
    let past = c.loop-x-test.false in
    let end = c.views-x-end.ensures in
    c.loop-x.invariant ∙ laid_all c.args.setup.now c.loop-x.x c.sources-sound.ensures.sound.slots (omega (arith, past, end))

pub returns-clause-size : goal.returns-clause-size
returns-clause-size c =
    let s = c.args.setup.now in
    let past = c.loop-x-test.false in
    let end = c.views-x-end.ensures in
    let words = c.loop-x.invariant ∙ laid_all s c.loop-x.x c.sources-sound.ensures.sound.slots (omega (arith, past, end)) in
    let size = first_count s c.sources-sound.ensures.sound in
    let few = board_small s c.sources-sound.ensures.sound in
    let same = ap length words ∙ size in
    let counted : length c.loop-x.words.items ≡ vec_len c.loop-x.words = search rules in
    (sym counted ∙ same, omega (arith, same, few, counted))
