use Rattle.std.proofs.Common.{◌≡◌, ◌<◌, ℕ, true, Some, None, length, sym, subst}
use Rattle.std.specs.Prelude.{◌↔◌}
use Rattle.std.specs.List.{position}
use Rattle.whips_store.specs.Versions.{is_free}
use Rattle.whips_slot_index.specs.Slots.{all_steps}
use Rattle.whips_slot_index.specs.Indexes.{IndexData, is_among, slot_at}
use Rattle.whips_slot_index.proofs.Shown.{not_above, some_there}
use Rattle.whips_slot_index.proofs.Sought.{first_free, none_free}
use Rattle.whips_slot_index.proofs.index.SlotIndex.first_free.Goals as goal

pub returns-in-Some : goal.returns-in-Some
returns-in-Some c =
    let exact = subst (λ (x : IndexData). ((i : ℕ) → (is_among x.free i ≡ true) ↔ ((i < length (all_steps c.args.records.now)) × (is_free x.versions x.committed (slot_at (all_steps c.args.records.now) i) ≡ true)))) (sym c.self.view_is) c.requires in
    subst (λ (x : IndexData). Some c.in-Some.slot.now ≡ position (is_free x.versions x.committed) (all_steps c.args.records.now)) c.self.view_is
    (first_free c.self.inside.versions c.self.inside.committed (all_steps c.args.records.now) c.self.inside.free.keys exact c.in-Some.slot.now c.in-Some.ensures.member (λ i e. not_above c.in-Some.slot.now i (c.in-Some.ensures.least i e)))

pub returns-in-None : goal.returns-in-None
returns-in-None c =
    let exact = subst (λ (x : IndexData). ((i : ℕ) → (is_among x.free i ≡ true) ↔ ((i < length (all_steps c.args.records.now)) × (is_free x.versions x.committed (slot_at (all_steps c.args.records.now) i) ≡ true)))) (sym c.self.view_is) c.requires in
    subst (λ (x : IndexData). None ≡ position (is_free x.versions x.committed) (all_steps c.args.records.now)) c.self.view_is
    (none_free c.self.inside.versions c.self.inside.committed (all_steps c.args.records.now) c.self.inside.free.keys exact (λ i e. let bad = c.in-None.ensures.variant.1 (some_there c.self.inside.free.keys i e) in cc))
