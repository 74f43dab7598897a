-- The tuple of a single insertion has its relation's width.
use Rattle.std.proofs.Common.{◌≡◌, ℕ, ◌<◌, [], ◌∷◌, length, arith}
use Rattle.std.specs.Prelude.{slice_index}
use Rattle.std.proofs.lemmas.List.{length-map}
use Rattle.whips_model.specs.Tuples.{Codes, Columns}
use Rattle.whips_rel.specs.declared.update.Update.TheVariants.{Insert}
use Rattle.whips_view.specs.ViewDefs.{View, keyed}
use Rattle.whips_view.specs.Widths.{widths_of}
use Rattle.whips_managers.specs.Messages.{HaveWidths}

-- where all relations of the view have the tuple's width
pub one_wide : (view : View) (r : ℕ) (s : Codes) → ((part : ℕ) → part < length view.bases → length s ≡ slice_index (widths_of view) part) → HaveWidths (keyed view) (widths_of view) (Insert r s ∷ [])
one_wide view r s wide = (λ part lt of. wide part (let same = length-map view.bases (λ (b : Columns). b.key) in omega arith), tt)
