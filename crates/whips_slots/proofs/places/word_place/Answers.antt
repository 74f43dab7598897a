use Rattle.std.proofs.Common.{refl, arith}
use Rattle.whips_slot_words.specs.Words.{view_shape}
use Rattle.whips_slot_words.specs.StoreLaws.{shape_of}
use Rattle.whips_slots.proofs.Small.{in_setup, place_is, word_small}
use Rattle.whips_slots.proofs.places.word_place.Goals as goal

pub view_place-requires : goal.view_place-requires
view_place-requires c = in_setup c.args.setup.now c.sources-sound.ensures.sound c.args.x c.requires.slot.view

pub slot_size-requires : goal.slot_size-requires
slot_size-requires c = in_setup c.args.setup.now c.sources-sound.ensures.sound c.args.x c.requires.slot.view

pub view_width-requires : goal.view_width-requires
view_width-requires c = in_setup c.args.setup.now c.sources-sound.ensures.sound c.args.x c.requires.slot.view

pub overflow_mul-result : goal.overflow_mul-result
overflow_mul-result c =
    let s = c.args.setup.now in
    let within = word_small s c.args.x c.args.i c.args.e c.args.k c.sources-sound.ensures.sound c.requires.slot c.requires.entry c.requires.word in
    let place = place_is (shape_of s) c.args.x c.args.i c.args.e c.args.k c.view_place.result c.slot_size.result (view_shape (shape_of s) c.args.x).width c.view_place.ensures c.slot_size.ensures.size refl in
    omega (arith, within.0, within.1, place)

pub overflow_add-result : goal.overflow_add-result
overflow_add-result c =
    let s = c.args.setup.now in
    let within = word_small s c.args.x c.args.i c.args.e c.args.k c.sources-sound.ensures.sound c.requires.slot c.requires.entry c.requires.word in
    let place = place_is (shape_of s) c.args.x c.args.i c.args.e c.args.k c.view_place.result c.slot_size.result (view_shape (shape_of s) c.args.x).width c.view_place.ensures c.slot_size.ensures.size refl in
    omega (arith, within.0, within.1, place)

pub overflow_add-result-3 : goal.overflow_add-result-3
overflow_add-result-3 c =
    let s = c.args.setup.now in
    let within = word_small s c.args.x c.args.i c.args.e c.args.k c.sources-sound.ensures.sound c.requires.slot c.requires.entry c.requires.word in
    let place = place_is (shape_of s) c.args.x c.args.i c.args.e c.args.k c.view_place.result c.slot_size.result c.view_width.result c.view_place.ensures c.slot_size.ensures.size c.view_width.ensures.width in
    omega (arith, within.0, within.1, place)

pub overflow_add-result-4 : goal.overflow_add-result-4
overflow_add-result-4 c =
    let s = c.args.setup.now in
    let within = word_small s c.args.x c.args.i c.args.e c.args.k c.sources-sound.ensures.sound c.requires.slot c.requires.entry c.requires.word in
    let place = place_is (shape_of s) c.args.x c.args.i c.args.e c.args.k c.view_place.result c.slot_size.result c.view_width.result c.view_place.ensures c.slot_size.ensures.size c.view_width.ensures.width in
    omega (arith, within.0, within.1, place)

pub returns-clause-within : goal.returns-clause-within
returns-clause-within c =
    let s = c.args.setup.now in
    let within = word_small s c.args.x c.args.i c.args.e c.args.k c.sources-sound.ensures.sound c.requires.slot c.requires.entry c.requires.word in
    let place = place_is (shape_of s) c.args.x c.args.i c.args.e c.args.k c.view_place.result c.slot_size.result c.view_width.result c.view_place.ensures c.slot_size.ensures.size c.view_width.ensures.width in
    omega (arith, within.0, within.1, place)
