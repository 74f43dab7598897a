use Rattle.std.proofs.Common.{ap, ◌∙◌}
use Rattle.whips_model.specs.Tuples.{Columns, at_columns}
use Rattle.whips_plain_store.proofs.Puts.{replaced}
use Rattle.whips_plain_store.proofs.need.put.Goals as goal

pub returns-in-Ok : goal.returns-in-Ok
returns-in-Ok c = replaced c.args.rows.now c.delete_if_there.new.self c.insert.new.self c.args.row.now c.in_ok-copy.copy c.in_ok-key.key c.schema.ensures.sound.keyed c.in_ok-copy.ensures (c.in_ok-key.ensures ∙ ap (λ (columns : Columns). at_columns columns.key c.args.row.now) c.schema.ensures.schema) c.in_ok-delete_if_there.ensures.ok c.in-Ok.ensures.ok
