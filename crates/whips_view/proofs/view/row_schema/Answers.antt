use Rattle.std.proofs.lemmas.List.{length-map}
use Rattle.std.specs.Option.{unwrap_or}
use Rattle.whips_model.specs.declared.ColRef.{ColRef}
use Rattle.whips_model.specs.declared.Kind.TheVariants.{Number}
use Rattle.whips_view.specs.ViewDefs.{kind_of}
use Rattle.whips_view.proofs.Checked.{rows_keyed}
use Rattle.whips_view.proofs.view.row_schema.Goals as goal

pub make-requires : goal.make-requires
make-requires c = rw (c.of.ensures, c.in_ok-kinds.ensures, c.of-2.ensures, c.in_ok-add_places.ensures, c.new-places.ensures.items, c.out.ensures, c.out-2.ensures) (rows_keyed c.args.parts.now c.args.bases.now c.requires.checked c.requires.bases _ (length-map c.args.parts.now.out (λ (at : ColRef). unwrap_or (kind_of c.args.bases.now at) Number)))
