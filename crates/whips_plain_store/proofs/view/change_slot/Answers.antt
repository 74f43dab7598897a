use Rattle.std.proofs.Common.{◌≡◌, ◌+◌, get_or, sym, subst}
use Rattle.whips_vnl.specs.Records.{steps_after}
use Rattle.whips_slot_index.proofs.Found.{slot_changed}
use Rattle.whips_plain_store.proofs.view.change_slot.Goals as goal

pub returns : goal.returns
returns c = slot_changed c.args.records.now.items c.args.slot c.take-old.new.self c.take-old.result c.changed-new.result (steps_after c.args.n (c.args.c + 1) c.args.change) c.requires.slot (subst (λ z. z ≡ get_or c.args.records.now.items c.args.slot z) (sym c.take-old.ensures.value) c.index_mut.ensures.value) c.changed-new.ensures.steps
