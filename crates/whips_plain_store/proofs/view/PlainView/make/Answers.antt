use Rattle.std.proofs.Common.{◌≡◌, ◌-◌, sym, subst, ap, ◌∙◌}
use Rattle.whips_store.specs.Stores.{ViewState}
use Rattle.whips_store.specs.Sound.{IsSoundView}
use Rattle.whips_store_laws.proofs.First.{first_is_sound}
use Rattle.whips_slot_index.specs.Slots.{all_steps}
use Rattle.whips_plain_store.proofs.Steps.{view_made}
use Rattle.whips_plain_store.proofs.view.PlainView.make.Goals as goal

pub returns-clause-sound : goal.returns-clause-sound
returns-clause-sound c = λ n two within.
    let made = view_made c.args.rows.columns c.args.rows.rows c.as_slice.result.now (all_steps c.in_ok-first_slots.field-0.items) c.new.result.items (c.args.slots - c.len.result) c.in_ok-first_slots.ensures (c.as_slice.ensures ∙ c.in_ok-firsts.ensures) c.new.ensures.items in
    subst (λ (v : ViewState). IsSoundView n 0 v) (sym made) (first_is_sound n c.args.rows.columns c.args.rows.rows (c.args.slots - c.len.result) two c.schema-sound.ensures.sound within)
