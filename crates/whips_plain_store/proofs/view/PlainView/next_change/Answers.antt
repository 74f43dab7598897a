use Rattle.std.proofs.Common.{◌≡◌, ◌-◌, ◌/◌, length, take, sym, ap, subst, ◌∙◌}
use Rattle.std.specs.Prelude.{reverse}
use Rattle.std.specs.Option.{unwrap_or}
use Rattle.whips_model.specs.Tuples.{Columns}
use Rattle.whips_net.specs.Made.{change_key}
use Rattle.whips_store.specs.Stores.{ViewState}
use Rattle.whips_store.specs.Calls.{slot_for}
use Rattle.whips_store.specs.Sound.{IsSoundView}
use Rattle.whips_store_laws.proofs.Views.{slot_found}
use Rattle.whips_slot_index.specs.Slots.{all_steps, AreKept}
use Rattle.whips_plain_store.proofs.Steps.{seen_view, all_kept, last_left}
use Rattle.whips_plain_store.proofs.view.PlainView.next_change.Goals as goal

pub slot_of-requires-clause-kept : goal.slot_of-requires-clause-kept
slot_of-requires-clause-kept c =
    let v : ViewState = seen_view c.self.inside.current.columns c.self.inside.records.items c.self.inside.current.rows (unwrap_or c.self.inside.next c.self.inside.current).rows c.self.inside.left.items in
    let sound : IsSoundView c.args.n c.args.phase v = subst (IsSoundView c.args.n c.args.phase) (sym c.self.view_is) c.requires.sound in
    subst (AreKept c.args.n) (sym c.deref-2.ensures.value) (all_kept c.args.n c.args.phase c.self.inside.records.items sound.records)

pub returns-in_err-slot : goal.returns-in_err-slot
returns-in_err-slot c =
    let v : ViewState = seen_view c.self.inside.current.columns c.self.inside.records.items c.self.inside.current.rows (unwrap_or c.self.inside.next c.self.inside.current).rows c.self.inside.left.items in
    let sound : IsSoundView c.args.n c.args.phase v = subst (IsSoundView c.args.n c.args.phase) (sym c.self.view_is) c.requires.sound in
    let last = c.in_ok-change.ensures.item in
    let left = last_left c.self.inside.left.items c.deref.result.now c.in_ok-change.change.now c.deref.ensures.value last.3.0 last.1 in
    let none = ap (λ (columns : Columns). slot_for c.args.n (c.args.phase / 2) columns.key (change_key columns.key c.in_ok-change.change.now) v.records) (sym c.schema.ensures.schema)
    ∙ ap (λ l. slot_for c.args.n (c.args.phase / 2) c.schema.result.now.key (change_key c.schema.result.now.key c.in_ok-change.change.now) (all_steps l)) (sym c.deref-2.ensures.value)
    ∙ sym c.slot_of.ensures ∙ c.in_err-slot.was in
    absurd (slot_found c.args.n c.args.phase v c.in_ok-change.change.now (reverse (take (length c.deref.result.now - 1) c.deref.result.now)) c.requires.least sound left none)
