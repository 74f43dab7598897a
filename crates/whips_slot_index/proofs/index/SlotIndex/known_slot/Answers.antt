use Rattle.std.proofs.Common.{◌≡◌, Some, None, sym, ap, subst, ◌∙◌, arith}
use Rattle.std.specs.Prelude.{nat_eq}
use Rattle.std.specs.List.{position}
use Rattle.std.specs.Map.{lookup}
use Rattle.std.proofs.lemmas.List.{length-map}
use lib.Pointwise.{pointwise}
use Rattle.whips_net.specs.Made.{change_key}
use Rattle.whips_vnl.specs.Records.{steps_or_none}
use Rattle.whips_store.specs.Versions.{versions_in_use, shows_key}
use Rattle.whips_slot_index.specs.Slots.{all_steps}
use Rattle.whips_slot_index.specs.Indexes.{IndexData, IsIndex}
use Rattle.whips_slot_index.proofs.Visits.{record_at}
use Rattle.whips_slot_index.proofs.Sought.{known, not_noted, not_shown}
use Rattle.whips_slot_index.proofs.index.SlotIndex.known_slot.Goals as goal
use Rattle.whips_slot_index.proofs.index.SlotIndex.known_slot.Goals.{else-slot-records-via-then-slot-records+else-shows_change, else-slot-records-via-else-slot-records}

pub returns-in-None : goal.returns-in-None
returns-in-None c =
    let index : IndexData = record { versions = c.self.inside.versions; committed = c.self.inside.committed; slots = c.self.inside.slots.entries; free = c.self.inside.free.keys; revisit = c.self.inside.revisit.items } in
    let ok : IsIndex c.args.schema.now.key (all_steps c.args.records.now) index = subst (IsIndex c.args.schema.now.key (all_steps c.args.records.now)) (sym c.self.view_is) c.requires.index in
    subst (λ (x : IndexData). None ≡ position (shows_key c.args.schema.now.key x.versions (versions_in_use x.versions x.committed) (change_key c.args.schema.now.key c.args.change.now)) (all_steps c.args.records.now)) c.self.view_is
    (not_noted c.args.schema.now.key (all_steps c.args.records.now) index ok (change_key c.args.schema.now.key c.args.change.now) (ap (λ k. lookup (pointwise nat_eq k) c.self.inside.slots.entries) (sym c.requires.key) ∙ sym c.in-None.ensures.value))

pub returns-then-shows_change : goal.returns-then-shows_change
returns-then-shows_change c =
    let index : IndexData = record { versions = c.self.inside.versions; committed = c.self.inside.committed; slots = c.self.inside.slots.entries; free = c.self.inside.free.keys; revisit = c.self.inside.revisit.items } in
    let ok : IsIndex c.args.schema.now.key (all_steps c.args.records.now) index = subst (IsIndex c.args.schema.now.key (all_steps c.args.records.now)) (sym c.self.view_is) c.requires.index in
    subst (λ (x : IndexData). Some c.in-Some.slot.now ≡ position (shows_key c.args.schema.now.key x.versions (versions_in_use x.versions x.committed) (change_key c.args.schema.now.key c.args.change.now)) (all_steps c.args.records.now)) c.self.view_is
    (known c.args.schema.now.key (all_steps c.args.records.now) index ok (change_key c.args.schema.now.key c.args.change.now) c.in-Some.slot.now (ap (λ k. lookup (pointwise nat_eq k) c.self.inside.slots.entries) (sym c.requires.key) ∙ sym c.in-Some.ensures.value) (omega (arith, length-map c.args.records.now steps_or_none, c.if-slot-records.true))
    (ap (shows_key c.args.schema.now.key c.self.inside.versions (versions_in_use c.self.inside.versions c.self.inside.committed) (change_key c.args.schema.now.key c.args.change.now)) (record_at c.args.records.now c.in-Some.slot.now c.index-records-slot.result c.if-slot-records.true c.index-records-slot.is) ∙ sym c.shows_change.ensures ∙ c.if-shows_change.true))

pub returns : goal.returns
returns c =
    let index : IndexData = record { versions = c.self.inside.versions; committed = c.self.inside.committed; slots = c.self.inside.slots.entries; free = c.self.inside.free.keys; revisit = c.self.inside.revisit.items } in
    let ok : IsIndex c.args.schema.now.key (all_steps c.args.records.now) index = subst (IsIndex c.args.schema.now.key (all_steps c.args.records.now)) (sym c.self.view_is) c.requires.index in
    subst (λ (x : IndexData). None ≡ position (shows_key c.args.schema.now.key x.versions (versions_in_use x.versions x.committed) (change_key c.args.schema.now.key c.args.change.now)) (all_steps c.args.records.now)) c.self.view_is
    (not_shown c.args.schema.now.key (all_steps c.args.records.now) index ok (change_key c.args.schema.now.key c.args.change.now) c.in-Some.slot.now (ap (λ k. lookup (pointwise nat_eq k) c.self.inside.slots.entries) (sym c.requires.key) ∙ sym c.in-Some.ensures.value) (elim c.else-slot-records.branch [
      | else-slot-records-via-then-slot-records+else-shows_change w ↦ λ lt. (ap (shows_key c.args.schema.now.key c.self.inside.versions (versions_in_use c.self.inside.versions c.self.inside.committed) (change_key c.args.schema.now.key c.args.change.now)) (record_at c.args.records.now c.in-Some.slot.now w.index-records-slot.result w.if-slot-records.true w.index-records-slot.is) ∙ sym w.shows_change.ensures ∙ w.if-shows_change.false)
      | else-slot-records-via-else-slot-records w ↦ λ lt. absurd (omega (arith, length-map c.args.records.now steps_or_none, w.if-slot-records.false))
    ]))
