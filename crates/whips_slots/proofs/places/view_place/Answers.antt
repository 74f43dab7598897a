use Rattle.std.proofs.Common.{◌+◌, suc, sym, ap, arith}
use Rattle.whips_slot_words.specs.StoreLaws.{shapes_of}
use Rattle.whips_slots.proofs.Small.{offset_none, offset_more, offset_within, board_small, in_shape}
use Rattle.whips_slots.proofs.places.view_place.Goals as goal

pub loop-y-init : goal.loop-y-init
loop-y-init c = sym (ap suc (offset_none c.args.setup.now.versions (shapes_of c.args.setup.now.views c.args.setup.now.slots)))

pub overflow_add-place : goal.overflow_add-place
overflow_add-place c =
    let s = c.args.setup.now in
    let vs = shapes_of s.views s.slots in
    let past = c.loop-y-test.true in
    let there = c.requires in
    let one = offset_more s.versions c.loop-y.y vs (in_shape s c.sources-sound.ensures.sound c.loop-y.y (omega (arith, past, there))) in
    let within = offset_within s.versions (c.loop-y.y + 1) vs in
    let few = board_small s c.sources-sound.ensures.sound in
    let size = c.view_size-place.ensures.size in
    let so_far = c.loop-y.invariant in
    omega (arith, one, within, few, size, so_far)

pub loop-y-preserved : goal.loop-y-preserved
loop-y-preserved c =
    let s = c.args.setup.now in
    let vs = shapes_of s.views s.slots in
    let past = c.loop-y-test.true in
    let there = c.requires in
    let one = offset_more s.versions c.loop-y.y vs (in_shape s c.sources-sound.ensures.sound c.loop-y.y (omega (arith, past, there))) in
    let size = c.view_size-place.ensures.size in
    let so_far = c.loop-y.invariant in
    omega (arith, one, size, so_far)
