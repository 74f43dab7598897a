use Rattle.std.proofs.Common.{◌≡◌, ◌+◌, ◌/◌, List, ◌∷◌, length, Some, None, sym, ap, subst, ◌∙◌}
use Rattle.std.specs.Prelude.{reverse}
use Rattle.std.specs.Option.{unwrap_or, ForSome}
use Rattle.whips_model.specs.Tuples.{Columns}
use Rattle.whips_net.specs.Made.{change_key}
use Rattle.whips_vnl.specs.declared.record.Vstep.{Vstep}
use Rattle.whips_store.specs.Stores.{ViewState}
use Rattle.whips_store.specs.Calls.{slot_for}
use Rattle.whips_store.specs.Sound.{IsSoundView}
use Rattle.whips_store_laws.proofs.Views.{slot_fits, slot_found}
use Rattle.whips_slot_index.specs.Slots.{all_steps, AreKept}
use Rattle.whips_slot_index.specs.Indexes.{IsIndex}
use Rattle.whips_plain_store.specs.Plain.{changed_first}
use Rattle.whips_plain_store.proofs.Steps.{seen_view, all_kept, first_left, change_made, index_kept}
use Rattle.whips_plain_store.proofs.view.PlainView.change_next.Goals as goal
use Rattle.whips_plain_store.proofs.view.PlainView.change_next.Goals.{in-Some-3, in-None-3}

pub slot_of-place-requires-clause-kept : goal.slot_of-place-requires-clause-kept
slot_of-place-requires-clause-kept c =
    let v : ViewState = seen_view c.self.inside.current.columns c.self.inside.records.items c.self.inside.current.rows (unwrap_or c.self.inside.next c.self.inside.current).rows c.self.inside.left.items in
    let sound : IsSoundView c.args.n c.args.phase v = subst (IsSoundView c.args.n c.args.phase) (sym c.self.view_is) c.requires.sound in
    subst (AreKept c.args.n) (sym c.deref.ensures.value) (all_kept c.args.n c.args.phase c.self.inside.records.items sound.records)

pub change_slot-requires-clause-kept : goal.change_slot-requires-clause-kept
change_slot-requires-clause-kept c =
    let v : ViewState = seen_view c.self.inside.current.columns c.self.inside.records.items c.self.inside.current.rows (unwrap_or c.self.inside.next c.self.inside.current).rows c.self.inside.left.items in
    let sound : IsSoundView c.args.n c.args.phase v = subst (IsSoundView c.args.n c.args.phase) (sym c.self.view_is) c.requires.sound in
    let left = first_left c.self.inside.left.items c.pop.new.self.items c.in-Some.change c.in-Some.ensures.items in
    let place = ap (λ (columns : Columns). slot_for c.args.n (c.args.phase / 2) columns.key (change_key columns.key c.in-Some.change) v.records) (sym c.schema.ensures.schema) ∙ ap (λ l. slot_for c.args.n (c.args.phase / 2) c.schema.result.now.key (change_key c.schema.result.now.key c.in-Some.change) (all_steps l)) (sym c.deref.ensures.value) ∙ sym c.slot_of-place.ensures ∙ c.in-Some-place.is in
    (slot_fits c.args.n c.args.phase v c.in-Some.change (reverse c.pop.new.self.items) c.requires.least sound left c.in-Some-place.slot place).1

pub change_slot-requires-clause-newer : goal.change_slot-requires-clause-newer
change_slot-requires-clause-newer c =
    let v : ViewState = seen_view c.self.inside.current.columns c.self.inside.records.items c.self.inside.current.rows (unwrap_or c.self.inside.next c.self.inside.current).rows c.self.inside.left.items in
    let sound : IsSoundView c.args.n c.args.phase v = subst (IsSoundView c.args.n c.args.phase) (sym c.self.view_is) c.requires.sound in
    let left = first_left c.self.inside.left.items c.pop.new.self.items c.in-Some.change c.in-Some.ensures.items in
    let place = ap (λ (columns : Columns). slot_for c.args.n (c.args.phase / 2) columns.key (change_key columns.key c.in-Some.change) v.records) (sym c.schema.ensures.schema) ∙ ap (λ l. slot_for c.args.n (c.args.phase / 2) c.schema.result.now.key (change_key c.schema.result.now.key c.in-Some.change) (all_steps l)) (sym c.deref.ensures.value) ∙ sym c.slot_of-place.ensures ∙ c.in-Some-place.is in
    (slot_fits c.args.n c.args.phase v c.in-Some.change (reverse c.pop.new.self.items) c.requires.least sound left c.in-Some-place.slot place).2

pub change_slot-requires-clause-fitting : goal.change_slot-requires-clause-fitting
change_slot-requires-clause-fitting c =
    let v : ViewState = seen_view c.self.inside.current.columns c.self.inside.records.items c.self.inside.current.rows (unwrap_or c.self.inside.next c.self.inside.current).rows c.self.inside.left.items in
    let sound : IsSoundView c.args.n c.args.phase v = subst (IsSoundView c.args.n c.args.phase) (sym c.self.view_is) c.requires.sound in
    let left = first_left c.self.inside.left.items c.pop.new.self.items c.in-Some.change c.in-Some.ensures.items in
    let place = ap (λ (columns : Columns). slot_for c.args.n (c.args.phase / 2) columns.key (change_key columns.key c.in-Some.change) v.records) (sym c.schema.ensures.schema) ∙ ap (λ l. slot_for c.args.n (c.args.phase / 2) c.schema.result.now.key (change_key c.schema.result.now.key c.in-Some.change) (all_steps l)) (sym c.deref.ensures.value) ∙ sym c.slot_of-place.ensures ∙ c.in-Some-place.is in
    (slot_fits c.args.n c.args.phase v c.in-Some.change (reverse c.pop.new.self.items) c.requires.least sound left c.in-Some-place.slot place).3

pub invariant_of-self : goal.invariant_of-self
invariant_of-self c =
    let v : ViewState = seen_view c.self.inside.current.columns c.self.inside.records.items c.self.inside.current.rows (unwrap_or c.self.inside.next c.self.inside.current).rows c.self.inside.left.items in
    let sound : IsSoundView c.args.n c.args.phase v = subst (IsSoundView c.args.n c.args.phase) (sym c.self.view_is) c.requires.sound in
    let left = first_left c.self.inside.left.items c.pop.new.self.items c.in-Some.change c.in-Some.ensures.items in
    let place = ap (λ (columns : Columns). slot_for c.args.n (c.args.phase / 2) columns.key (change_key columns.key c.in-Some.change) v.records) (sym c.schema.ensures.schema) ∙ ap (λ l. slot_for c.args.n (c.args.phase / 2) c.schema.result.now.key (change_key c.schema.result.now.key c.in-Some.change) (all_steps l)) (sym c.deref.ensures.value) ∙ sym c.slot_of-place.ensures ∙ c.in-Some-place.is in (
      c.self.invariant.0,
      λ new is. index_kept c.args.n c.args.phase v c.in-Some.change (reverse c.pop.new.self.items) c.in-Some-place.slot c.requires.least sound left place (all_steps c.change_slot.new.records.items) c.take.result c.index_after.result new c.change_slot.ensures
          (subst (λ o. ForSome o (IsIndex c.self.inside.current.columns.key (all_steps c.self.inside.records.items))) (sym c.take.ensures.value) c.self.invariant.1) c.index_after.ensures is,
    )

pub invariant_of-self-in-Some-place-2 : goal.invariant_of-self-in-Some-place-2
invariant_of-self-in-Some-place-2 c =
    let v : ViewState = seen_view c.self.inside.current.columns c.self.inside.records.items c.self.inside.current.rows (unwrap_or c.self.inside.next c.self.inside.current).rows c.self.inside.left.items in
    let sound : IsSoundView c.args.n c.args.phase v = subst (IsSoundView c.args.n c.args.phase) (sym c.self.view_is) c.requires.sound in
    let left = first_left c.self.inside.left.items c.pop.new.self.items c.in-Some.change c.in-Some.ensures.items in
    let place = ap (λ (columns : Columns). slot_for c.args.n (c.args.phase / 2) columns.key (change_key columns.key c.in-Some.change) v.records) (sym c.schema.ensures.schema) ∙ ap (λ l. slot_for c.args.n (c.args.phase / 2) c.schema.result.now.key (change_key c.schema.result.now.key c.in-Some.change) (all_steps l)) (sym c.deref.ensures.value) ∙ sym c.slot_of-place.ensures ∙ c.in-Some-place.is in (
      c.self.invariant.0,
      λ new is. index_kept c.args.n c.args.phase v c.in-Some.change (reverse c.pop.new.self.items) c.in-Some-place.slot c.requires.least sound left place (all_steps c.change_slot.new.records.items) c.take.result c.index_after.result new c.change_slot.ensures
          (subst (λ o. ForSome o (IsIndex c.self.inside.current.columns.key (all_steps c.self.inside.records.items))) (sym c.take.ensures.value) c.self.invariant.1) c.index_after.ensures is,
    )

pub returns-in-Some-place : goal.returns-in-Some-place
returns-in-Some-place c =
    let v : ViewState = seen_view c.self.inside.current.columns c.self.inside.records.items c.self.inside.current.rows (unwrap_or c.self.inside.next c.self.inside.current).rows c.self.inside.left.items in
    let left = first_left c.self.inside.left.items c.pop.new.self.items c.in-Some.change c.in-Some.ensures.items in
    let place = ap (λ (columns : Columns). slot_for c.args.n (c.args.phase / 2) columns.key (change_key columns.key c.in-Some.change) v.records) (sym c.schema.ensures.schema) ∙ ap (λ l. slot_for c.args.n (c.args.phase / 2) c.schema.result.now.key (change_key c.schema.result.now.key c.in-Some.change) (all_steps l)) (sym c.deref.ensures.value) ∙ sym c.slot_of-place.ensures ∙ c.in-Some-place.is in
    let made : record v { records = all_steps c.change_slot.new.records.items; left = reverse c.pop.new.self.items } ≡ changed_first c.args.n (c.args.phase / 2) v =
    change_made c.args.n (c.args.phase / 2) v c.in-Some.change (reverse c.pop.new.self.items) c.in-Some-place.slot (all_steps c.change_slot.new.records.items) left place c.change_slot.ensures in
    let whole = made ∙ ap (changed_first c.args.n (c.args.phase / 2)) c.self.view_is in
    record { changed = elim c.match-key.branch [ in-Some-3 w ↦ w.self-is ∙ whole | in-None-3 w ↦ w.self-is ∙ whole ] }

pub returns-in_default-place : goal.returns-in_default-place
returns-in_default-place c =
    let v : ViewState = seen_view c.self.inside.current.columns c.self.inside.records.items c.self.inside.current.rows (unwrap_or c.self.inside.next c.self.inside.current).rows c.self.inside.left.items in
    let sound : IsSoundView c.args.n c.args.phase v = subst (IsSoundView c.args.n c.args.phase) (sym c.self.view_is) c.requires.sound in
    let left = first_left c.self.inside.left.items c.pop.new.self.items c.in-Some.change c.in-Some.ensures.items in
    let place = ap (λ (columns : Columns). slot_for c.args.n (c.args.phase / 2) columns.key (change_key columns.key c.in-Some.change) v.records) (sym c.schema.ensures.schema) ∙ ap (λ l. slot_for c.args.n (c.args.phase / 2) c.schema.result.now.key (change_key c.schema.result.now.key c.in-Some.change) (all_steps l)) (sym c.deref.ensures.value) ∙ sym c.slot_of-place.ensures ∙ c.in_default-place.is in
    absurd (slot_found c.args.n c.args.phase v c.in-Some.change (reverse c.pop.new.self.items) c.requires.least sound left place)
