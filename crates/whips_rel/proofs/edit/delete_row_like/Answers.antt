use Rattle.std.proofs.Common.{◌+◌, [], length, refl, ap, ◌∙◌}
use Rattle.whips_model.specs.Tuples.{at_columns}
use Rattle.whips_rel.proofs.Chunks.{found_read, without_read, without_shrinks, row_at_read}
use Rattle.whips_rel.proofs.edit.delete_row_like.Goals as goal

pub returns-in_default-take_row-clause-absent : goal.returns-in_default-take_row-clause-absent
returns-in_default-take_row-clause-absent c =
    let there = row_at_read c.args.schema.now.key c.args.chunks.now.items (at_columns c.args.schema.now.key c.args.tuple.now) c.in-Some.at c.index.result.now (rw c.deref.ensures.value at c.in-Some.ensures.found) c.index.ensures ∙ c.in-Ok.ensures.found.row [] in
    (λ e. absurd (cc), λ e. absurd (cc))

pub returns-in-Ok-take_row-clause-row : goal.returns-in-Ok-take_row-clause-row
returns-in-Ok-take_row-clause-row c = found_read c.args.schema.now.key c.args.chunks.now.items (at_columns c.args.schema.now.key c.args.tuple.now) c.in-Ok-take_row.row c.in-Some.at c.in-Ok.i c.index.result.now (rw c.deref.ensures.value at c.in-Some.ensures.found) c.index.ensures c.in-Ok.ensures.found c.in-Ok-take_row.ensures.row

pub returns-in-Ok-take_row-clause-ok : goal.returns-in-Ok-take_row-clause-ok
returns-in-Ok-take_row-clause-ok c = c.in-Ok-take_row.ensures.ok ∙ without_read c.args.schema.now.key c.args.chunks.now.items (at_columns c.args.schema.now.key c.args.tuple.now) c.in-Some.at c.in-Ok.i c.index.result.now (rw c.deref.ensures.value at c.in-Some.ensures.found) c.index.ensures c.in-Ok.ensures.found

pub returns-in-Ok-take_row-clause-shrunk : goal.returns-in-Ok-take_row-clause-shrunk
returns-in-Ok-take_row-clause-shrunk c = ap (λ l. length l + 1) (c.in-Ok-take_row.ensures.ok) ∙ without_shrinks c.args.schema.now.key c.args.chunks.now.items (at_columns c.args.schema.now.key c.args.tuple.now) c.in-Some.at c.in-Ok.i c.index.result.now (rw c.deref.ensures.value at c.in-Some.ensures.found) c.index.ensures c.in-Ok.ensures.found

pub returns-in-Ok-take_row-clause-absent : goal.returns-in-Ok-take_row-clause-absent
returns-in-Ok-take_row-clause-absent c =
    let there = found_read c.args.schema.now.key c.args.chunks.now.items (at_columns c.args.schema.now.key c.args.tuple.now) c.in-Ok-take_row.row c.in-Some.at c.in-Ok.i c.index.result.now (rw c.deref.ensures.value at c.in-Some.ensures.found) c.index.ensures c.in-Ok.ensures.found c.in-Ok-take_row.ensures.row in
    (λ e. absurd (cc), λ e. absurd (cc))

pub returns-in-Err-clause-absent : goal.returns-in-Err-clause-absent
returns-in-Err-clause-absent c =
    (λ e. row_at_read c.args.schema.now.key c.args.chunks.now.items (at_columns c.args.schema.now.key c.args.tuple.now) c.in-Some.at c.index.result.now (rw c.deref.ensures.value at c.in-Some.ensures.found) c.index.ensures ∙ c.in-Err.ensures.absent.none, λ e. refl)
