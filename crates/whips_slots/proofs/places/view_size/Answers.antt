use Rattle.std.proofs.Common.{◌≤◌, ◌*◌, sym, ap₂, arith}
use Rattle.whips_slots.proofs.Small.{product_within, setup_slots, slots_is}
use Rattle.whips_slots.proofs.places.view_size.Goals as goal

pub overflow_mul-result : goal.overflow_mul-result
overflow_mul-result c =
    let m : c.slots.result * c.slot_size.result ≤ 4096 * 68 = product_within c.slots.result c.slot_size.result 4096 68 (setup_slots c.args.setup.now c.sources-sound.ensures.sound c.args.x c.slots.result c.slots.ensures) c.slot_size.ensures.most in
    omega (arith, m)

pub returns-clause-size : goal.returns-clause-size
returns-clause-size c = ap₂ (λ a b. a * b) (sym (slots_is c.args.setup.now c.sources-sound.ensures.sound c.args.x c.slots.result c.slots.ensures)) c.slot_size.ensures.size

pub returns-clause-most : goal.returns-clause-most
returns-clause-most c = product_within c.slots.result c.slot_size.result 4096 68 (setup_slots c.args.setup.now c.sources-sound.ensures.sound c.args.x c.slots.result c.slots.ensures) c.slot_size.ensures.most
