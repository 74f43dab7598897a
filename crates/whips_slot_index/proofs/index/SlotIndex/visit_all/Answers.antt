use Rattle.std.proofs.Common.{◌*◌, ◌<◌, ◌≤◌, [], ◌∷◌, get_or, take, sym, subst}
use Rattle.std.specs.Prelude.{◌^◌}
use Rattle.std.specs.List.{AllByRecursion}
use Rattle.std.proofs.lemmas.List.{take_more, take_all}
use Rattle.whips_store.specs.Sound.{IsSlot, HasSlotForKey}
use Rattle.whips_slot_index.specs.Slots.{all_steps}
use Rattle.whips_slot_index.specs.Indexes.{AreVisited}
use Rattle.whips_slot_index.proofs.Visits.{none_visited, no_place, then_visited}
use Rattle.whips_slot_index.proofs.index.SlotIndex.visit_all.Goals as goal

pub loop-place-init : goal.loop-place-init
loop-place-init c = none_visited c.args.schema.now.key (all_steps c.args.records.now) [] c.args.self.now (no_place c.args.schema.now.key (all_steps c.args.records.now))

pub visit-requires-clause-least : goal.visit-requires-clause-least
visit-requires-clause-least c = subst (λ n. 2 ≤ n) (sym c.loop-place.invariant.versions) c.requires.least

pub visit-requires-clause-most : goal.visit-requires-clause-most
visit-requires-clause-most c = subst (λ n. n ≤ 4) (sym c.loop-place.invariant.versions) c.requires.most

pub visit-requires-clause-version : goal.visit-requires-clause-version
visit-requires-clause-version c = subst (λ v. v < 2 ^ 62) (sym c.loop-place.invariant.committed) c.requires.version

pub visit-requires-clause-slots : goal.visit-requires-clause-slots
visit-requires-clause-slots c = subst (λ v. AllByRecursion (IsSlot c.loop-place.self.versions (2 * v)) (all_steps c.args.records.now)) (sym c.loop-place.invariant.committed) (subst (λ n. AllByRecursion (IsSlot n (2 * c.args.self.now.committed)) (all_steps c.args.records.now)) (sym c.loop-place.invariant.versions) c.requires.slots)

pub visit-requires-clause-keys : goal.visit-requires-clause-keys
visit-requires-clause-keys c = subst (λ v. HasSlotForKey c.args.schema.now.key c.loop-place.self.versions v (all_steps c.args.records.now)) (sym c.loop-place.invariant.committed) (subst (λ n. HasSlotForKey c.args.schema.now.key n c.args.self.now.committed (all_steps c.args.records.now)) (sym c.loop-place.invariant.versions) c.requires.keys)

pub loop-place-preserved : goal.loop-place-preserved
loop-place-preserved c = subst (λ places. AreVisited c.args.schema.now.key (all_steps c.args.records.now) places c.args.self.now c.visit.new.self) (sym (take_more c.args.places.now c.loop-place.place-index 0 c.loop-place-test.true))
    (then_visited c.args.schema.now.key (all_steps c.args.records.now) (take c.loop-place.place-index c.args.places.now) (get_or c.args.places.now c.loop-place.place-index 0 ∷ []) c.args.self.now c.loop-place.self c.visit.new.self c.loop-place.invariant c.in_ok-visit.ensures)

pub returns : goal.returns
returns c = subst (λ places. AreVisited c.args.schema.now.key (all_steps c.args.records.now) places c.args.self.now c.loop-place.self) (take_all c.loop-place.place-index c.args.places.now c.loop-place-test.false) c.loop-place.invariant
