use Rattle.std.proofs.Common.{sym, subst, arith}
use Rattle.std.proofs.lemmas.List.{length-map}
use Rattle.whips_lists.specs.Members.{Has}
use Rattle.whips_vnl.specs.Records.{steps_or_none}
use Rattle.whips_slot_index.specs.Slots.{all_steps}
use Rattle.whips_slot_index.specs.Indexes.{IndexData}
use Rattle.whips_slot_index.proofs.Built.{built}
use Rattle.whips_slot_index.proofs.index.SlotIndex.build.Goals as goal

pub returns-clause-index : goal.returns-clause-index
returns-clause-index c =
    let empty : IndexData = record { versions = c.args.n; committed = c.args.c; slots = c.new.result.entries; free = c.new-2.result.keys; revisit = c.new-3.result.items } in
    built c.args.schema.now.key (all_steps c.args.records.now) c.deref.result.now empty c.visit_all.new.self c.new-2.ensures.empty
    (λ i lt. subst (Has i) (sym c.deref.ensures.value) (c.in_ok-places.ensures i (omega (arith, lt, length-map c.args.records.now steps_or_none)))) c.in_ok-visit_all.ensures
