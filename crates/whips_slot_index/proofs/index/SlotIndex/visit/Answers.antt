use Rattle.std.proofs.Common.{◌*◌, [], ◌∷◌, length, arith}
use Rattle.std.proofs.lemmas.List.{length-map}
use Rattle.whips_vnl.specs.Records.{steps_or_none}
use Rattle.whips_store.specs.Versions.{versions_in_use}
use Rattle.whips_slot_index.specs.Slots.{all_steps, row_among}
use Rattle.whips_slot_index.proofs.Visits.{same_versions, wide_at, few_at, visited_at, none_visited, not_there}
use Rattle.whips_slot_index.proofs.index.SlotIndex.visit.Goals as goal

pub visit_key-requires-clause-widths : goal.visit_key-requires-clause-widths
visit_key-requires-clause-widths c = wide_at (length c.args.schema.now.kinds) c.args.records.now c.args.i c.index-records-i.result c.if-i-records.true c.index-records-i.is c.requires.widths

pub visit_slot-requires-clause-kept : goal.visit_slot-requires-clause-kept
visit_slot-requires-clause-kept c =
    let few = few_at c.args.self.now.versions (2 * c.args.self.now.committed) c.args.records.now c.args.i c.index-records-i-then-i-records.result c.if-i-records.true c.index-records-i-then-i-records.is c.requires.slots in
    let same = same_versions c.args.schema.now.key (row_among c.args.self.now.versions (steps_or_none c.index-records-i.result) (versions_in_use c.args.self.now.versions c.args.self.now.committed)) c.args.i c.args.self.now c.visit_key.new.self c.in_ok-visit_key.ensures in
    omega (arith, few, same)

pub returns-in_ok-visit_slot : goal.returns-in_ok-visit_slot
returns-in_ok-visit_slot c = visited_at c.args.schema.now.key c.args.records.now c.args.i c.index-records-i.result c.index-records-i-then-i-records.result c.args.self.now c.visit_key.new.self c.visit_slot.new.self
    c.requires.slots c.requires.keys c.if-i-records.true c.index-records-i.is c.index-records-i-then-i-records.is c.in_ok-visit_key.ensures c.in_ok-visit_slot.ensures

pub returns-else-i-records : goal.returns-else-i-records
returns-else-i-records c = none_visited c.args.schema.now.key (all_steps c.args.records.now) (c.args.i ∷ []) c.args.self.now (not_there c.args.schema.now.key (all_steps c.args.records.now) c.args.i (omega (arith, length-map c.args.records.now steps_or_none, c.if-i-records.false)))
