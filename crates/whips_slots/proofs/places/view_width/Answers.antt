use Rattle.std.proofs.Common.{◌≤◌, length, sym, ap, subst, ◌∙◌}
use Rattle.whips_model.specs.Tuples.{Columns}
use Rattle.whips_slots.proofs.Small.{width_is, setup_columns}
use Rattle.whips_slots.proofs.places.view_width.Goals as goal

pub returns-clause-width : goal.returns-clause-width
returns-clause-width c =
    ap length (c.kinds.ensures.kinds ∙ ap (λ (t : Columns). t.kinds) c.schema.ensures)
    ∙ sym (width_is c.args.setup.now c.sources-sound.ensures.sound c.args.x c.view.result.now c.view.ensures)

pub returns-clause-most : goal.returns-clause-most
returns-clause-most c =
    subst (λ k. k ≤ 16) (sym (ap length (c.kinds.ensures.kinds ∙ ap (λ (t : Columns). t.kinds) c.schema.ensures)))
    (setup_columns c.args.setup.now c.sources-sound.ensures.sound c.args.x c.view.result.now c.view.ensures)
