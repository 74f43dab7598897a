use Rattle.whips_view.proofs.Checked.{well_formed}
use Rattle.whips_view.proofs.view.ViewDef.over.Goals as goal

pub invariant_of-result : goal.invariant_of-result
invariant_of-result c = (
  well_formed c.args.parts c.args.bases.items (rw (← c.deref.ensures.value) c.in_ok-check_columns.ensures.ok) c.requires.bases c.requires.limits c.requires.once,
  rw (← c.deref-2.ensures.value) c.in_ok-schema.ensures,
)
