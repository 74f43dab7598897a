use Rattle.std.proofs.Common.{length, sym}
use Rattle.whips_vnl.specs.Records.{steps_or_none}
use Rattle.whips_slot_index.proofs.Shown.{wide_newest}
use Rattle.whips_slot_index.proofs.index.SlotIndex.forget.Goals as goal

pub key_of-requires : goal.key_of-requires
key_of-requires c = wide_newest (length c.args.schema.now.kinds) (steps_or_none c.args.slot.now) c.in-Some.row.now c.requires (sym c.in-Some.ensures)
