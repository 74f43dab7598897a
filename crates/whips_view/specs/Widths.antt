-- The widths of a view's relations.
use Rattle.std.specs.Prelude.{ℕ, List, length, map}
use Rattle.whips_view.specs.ViewDefs.{View}

-- The width of each of the view's relations.
abbrev pub widths_of : View → List ℕ
widths_of view = map (λ b. length b.kinds) view.bases
