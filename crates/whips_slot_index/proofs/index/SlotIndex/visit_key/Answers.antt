use Rattle.std.proofs.Common.{length, sym}
use Rattle.whips_vnl.specs.Records.{steps_or_none}
use Rattle.whips_store.specs.Versions.{versions_in_use}
use Rattle.whips_slot_index.proofs.Shown.{wide_among}
use Rattle.whips_slot_index.proofs.index.SlotIndex.visit_key.Goals as goal

pub key_of-requires : goal.key_of-requires
key_of-requires c = wide_among (length c.args.schema.now.kinds) c.self.inside.versions (steps_or_none c.args.slot.now) (versions_in_use c.self.inside.versions c.self.inside.committed) c.in-Some.row.now c.requires.widths (sym c.in-Some.ensures)
