-- What the worked views are made of.
use Rattle.std.specs.Prelude.{◌≡◌, ◌≤◌, length}
use Rattle.std.specs.List.{AllByRecursion}
use Rattle.whips_view.specs.ViewDefs.{View}
use Rattle.whips_fixtures.specs.Pairs.{pair_columns}

-- The view has two relations or more, each with two columns.
pub record IsOfPairs (view : View) : Type 0 where
  pub two : 2 ≤ length view.bases
  pub pairs : AllByRecursion (λ b. b ≡ pair_columns) view.bases
