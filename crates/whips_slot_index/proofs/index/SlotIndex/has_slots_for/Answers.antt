use Rattle.std.proofs.Common.{◌≡◌, ℕ, ◌+◌, take, Bool, true, false, not, refl, sym, ap, ◌∙◌, arith}
use Rattle.std.specs.Prelude.{is_none}
use Rattle.std.specs.List.{position}
use Rattle.std.proofs.lemmas.List.{length-take}
use Rattle.whips_model.specs.Tuples.{Codes}
use Rattle.whips_net.specs.Made.{change_key}
use Rattle.whips_store.specs.Versions.{versions_in_use, shows_key}
use Rattle.whips_slot_index.specs.Slots.{all_steps}
use Rattle.whips_slot_index.proofs.Sought.{one_more_change, at_most}
use Rattle.whips_slot_index.proofs.index.SlotIndex.has_slots_for.Goals as goal
use Rattle.whips_slot_index.proofs.index.SlotIndex.has_slots_for.Goals.{then-is_none, else-is_none}

twice : (b : Bool) → not (not b) ≡ b
twice true = refl
twice false = refl

add-zero : (m : ℕ) → m + 0 ≡ m
add-zero m = omega arith

pub overflow_add-unknown : goal.overflow_add-unknown
overflow_add-unknown c =
    let few = at_most (λ (k : Codes). is_none (position (shows_key c.args.schema.now.key c.args.self.now.versions (versions_in_use c.args.self.now.versions c.args.self.now.committed) k) (all_steps c.args.records.now))) (take c.loop-i.i c.args.keys.now) in
    omega (arith, few, length-take c.loop-i.i c.args.keys.now)

pub loop-i-preserved : goal.loop-i-preserved
loop-i-preserved c = elim c.if-is_none.branch [
  | then-is_none w ↦ w.unknown-is ∙ one_more_change (λ (k : Codes). is_none (position (shows_key c.args.schema.now.key c.args.self.now.versions (versions_in_use c.args.self.now.versions c.args.self.now.committed) k) (all_steps c.args.records.now)))
      (change_key c.args.schema.now.key) c.args.changes.now c.args.keys.now c.loop-i.i c.loop-i.unknown c.index-keys-i.result c.index-changes-i.result true c.requires.keys c.loop-i.invariant c.loop-i-test.true c.index-keys-i.is c.index-changes-i.is
      (ap is_none (sym c.known_slot.ensures) ∙ ap not c.is_none.ensures ∙ twice c.is_none.result ∙ w.if-is_none.true)
  | else-is_none w ↦ w.unknown-is ∙ sym (add-zero c.loop-i.unknown) ∙ one_more_change (λ (k : Codes). is_none (position (shows_key c.args.schema.now.key c.args.self.now.versions (versions_in_use c.args.self.now.versions c.args.self.now.committed) k) (all_steps c.args.records.now)))
      (change_key c.args.schema.now.key) c.args.changes.now c.args.keys.now c.loop-i.i c.loop-i.unknown c.index-keys-i.result c.index-changes-i.result false c.requires.keys c.loop-i.invariant c.loop-i-test.true c.index-keys-i.is c.index-changes-i.is
      (ap is_none (sym c.known_slot.ensures) ∙ ap not c.is_none.ensures ∙ twice c.is_none.result ∙ w.if-is_none.false)
]
