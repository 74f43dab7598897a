use Rattle.std.proofs.Common.{◌≡◌, ◌/◌, length, refl, sym, ap, subst, ◌∙◌, arith}
use Rattle.std.specs.List.{AllByRecursion}
use Rattle.std.proofs.lemmas.List.{length-map}
use Rattle.whips_model.specs.Tuples.{Columns}
use Rattle.whips_store.specs.Stores.{ViewState}
use Rattle.whips_store.specs.Calls.{slots_needed}
use Rattle.whips_vnl.specs.Records.{steps_or_none}
use Rattle.whips_slot_index.specs.Slots.{all_steps}
use Rattle.whips_plain_store.specs.Plain.{IsWide}
use Rattle.whips_plain_store.proofs.Room.{wide_changes, has_room_by}
use Rattle.whips_plain_store.proofs.view.PlainView.prepare.Goals as goal

pub keys_of-requires : goal.keys_of-requires
keys_of-requires c =
    let same : c.schema.result.now ≡ c.args.self.now.columns = c.schema.ensures.schema ∙ ap (λ (v : ViewState). v.columns) c.self.view_is in
    subst (λ (columns : Columns). AllByRecursion (IsWide (length columns.kinds)) c.args.changes.now) (sym same) (wide_changes c.args.self.now c.args.after.now.columns c.args.after.now.rows c.args.changes.now c.requires.net c.schema-table.ensures.sound c.requires.columns)

pub returns-then-is_roomy-clause-short : goal.returns-then-is_roomy-clause-short
returns-then-is_roomy-clause-short c =
    let columns : c.self.inside.current.columns ≡ c.args.self.now.columns = ap (λ (v : ViewState). v.columns) c.self.view_is in
    let records : all_steps c.self.inside.records.items ≡ c.args.self.now.records = ap (λ (v : ViewState). v.records) c.self.view_is in
    has_room_by c.args.n c.args.phase c.args.self.now c.args.after.now.columns c.args.after.now.rows c.args.changes.now c.in_ok-keys.keys.items c.deref-3.result.now c.in_ok-index.index
    c.schema.result.now c.schema-2.result.now c.schema-3.result.now (all_steps c.deref.result.now) (all_steps c.deref-2.result.now)
    c.requires.sound c.schema-table.ensures.sound c.requires.columns c.requires.net (c.schema.ensures.schema ∙ columns) (c.schema-2.ensures.schema ∙ columns) (c.schema-3.ensures.schema ∙ columns) (ap all_steps c.deref.ensures.value ∙ records) (ap all_steps c.deref-2.ensures.value ∙ records)
    c.in_ok-index.ensures.index c.in_ok-index.ensures.versions c.in_ok-index.ensures.committed c.in_ok-keys.ensures c.deref-3.ensures.value c.if-is_roomy.ensures.rising (c.if-is_roomy.ensures.enough.0 refl)

pub returns-then-need-len-clause-short : goal.returns-then-need-len-clause-short
returns-then-need-len-clause-short c =
    let needed : c.in_ok-need.need ≡ slots_needed c.args.n (c.args.phase / 2) c.args.self.now c.args.after.now.rows = c.in_ok-need.ensures ∙ ap (λ (v : ViewState). slots_needed c.args.n (c.args.phase / 2) v c.args.after.now.rows) c.self.view_is in
    let have : length c.args.self.now.records ≡ length c.self.inside.records.items = sym (ap (λ (v : ViewState). length v.records) c.self.view_is) ∙ length-map c.self.inside.records.items steps_or_none in
    omega (arith, needed, have, c.len.ensures, c.if-need-len.true)

pub returns-clause-short : goal.returns-clause-short
returns-clause-short c =
    let needed : c.in_ok-need.need ≡ slots_needed c.args.n (c.args.phase / 2) c.args.self.now c.args.after.now.rows = c.in_ok-need.ensures ∙ ap (λ (v : ViewState). slots_needed c.args.n (c.args.phase / 2) v c.args.after.now.rows) c.self.view_is in
    let have : length c.args.self.now.records ≡ length c.self.inside.records.items = sym (ap (λ (v : ViewState). length v.records) c.self.view_is) ∙ length-map c.self.inside.records.items steps_or_none in
    (omega (arith, needed, have, c.len.ensures, c.if-need-len.false), needed)
