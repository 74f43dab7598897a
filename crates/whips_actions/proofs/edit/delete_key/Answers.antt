use Rattle.std.proofs.Common.{◌≡◌, List, map, [], ap, subst, ◌∙◌}
use Rattle.std.specs.Prelude.{slice_index_or}
use Rattle.whips_model.specs.Tuples.{at_columns, has_key, IsKeyed}
use Rattle.whips_model.specs.Relation.{Table, IsTable}
use Rattle.whips_view.specs.ViewDefs.{keyed}
use Rattle.whips_actions.proofs.Edits.{key_gone, keys_found, found_wide}
use Rattle.whips_actions.proofs.edit.delete_key.Goals as goal

pub delete_all-requires : goal.delete_all-requires
delete_all-requires c =
    found_wide c.index_by.new.self c.rows-2.result.now c.in_ok-found.found c.as_slice.result.now (has_key c.deref-2.result.now c.args.key.now) c.rows-2.ensures
    (subst (λ (t : Table). IsTable t.columns t.rows) c.rows.ensures c.schema-sound.ensures.sound) c.in_ok-found.ensures c.as_slice.ensures

pub returns : goal.returns
returns c =
    let places = slice_index_or (keyed c.args.view.now).places c.args.part [] in
    let rows = c.rows.ensures ∙ ap (λ d. let t : Table = record { columns = d.columns; rows = d.after } in t) c.in_ok-index_by.ensures in
    key_gone c.args.draft.now c.index_by.new.self c.delete_all.new.draft places c.args.key.now (map (at_columns c.index_by.new.self.columns.key) c.as_slice.result.now) c.in_ok-index_by.ensures
    (subst (λ (t : Table). IsKeyed t.columns.key t.rows) rows c.schema-sound.ensures.sound.keyed)
    (keys_found c.args.draft.now c.index_by.new.self c.rows-2.result.now places c.deref-2.result.now c.args.key.now c.in_ok-found.found c.as_slice.result.now c.in_ok-index_by.ensures c.rows-2.ensures (c.deref-2.ensures.value ∙ c.in_ok-places.ensures) c.in_ok-found.ensures c.as_slice.ensures)
    c.in_ok-delete_all.ensures
