use Rattle.std.proofs.Common.{◌≡◌, ◌+◌, ◌*◌, ℕ, suc, Vec, Global, sym, ap, subst, ◌∙◌, arith}
use Rattle.std.specs.List.{AllByRecursion}
use Rattle.whips_store.specs.Sound.{IsSlot}
use Rattle.whips_slot_index.specs.Slots.{all_steps}
use Rattle.whips_slot_index.specs.Indexes.{IndexData, IsIndex}
use Rattle.whips_slot_index.proofs.Built.{start_is, advanced}
use Rattle.whips_slot_index.proofs.index.SlotIndex.advance.Goals as goal

pub returns-clause-index : goal.returns-clause-index
returns-clause-index c =
    let old : IndexData = record { versions = c.index.inside.versions; committed = c.index.inside.committed; slots = c.index.inside.slots.entries; free = c.index.inside.free.keys; revisit = c.index.inside.revisit.items } in
    let start : IndexData = record { versions = c.index.inside.versions; committed = c.index.inside.committed + 1; slots = c.index.inside.slots.entries; free = c.index.inside.free.keys; revisit = c.replace-places.new.dest.items } in
    let next : c.index.inside.committed + 1 ≡ suc c.index.inside.committed = omega arith in
    let slots = subst (λ (x : IndexData). AllByRecursion (IsSlot x.versions (2 * (x.committed + 1))) (all_steps c.args.records.now)) (sym c.index.view_is) c.requires.slots in
    advanced c.args.schema.now.key (all_steps c.args.records.now) old start c.visit_all.new.self
    (start_is old (c.index.inside.committed + 1) c.replace-places.new.dest.items next (ap (λ (v : Vec ℕ Global). v.items) c.replace-places.ensures.after ∙ c.new-fresh.ensures.items))
    (subst (λ w. AllByRecursion (IsSlot c.index.inside.versions (2 * w)) (all_steps c.args.records.now)) next slots)
    (subst (IsIndex c.args.schema.now.key (all_steps c.args.records.now)) (sym c.index.view_is) c.requires.index)
    c.deref.result.now (c.deref.ensures.value ∙ ap (λ (v : Vec ℕ Global). v.items) c.replace-places.ensures.value) c.in_ok-visit_all.ensures
