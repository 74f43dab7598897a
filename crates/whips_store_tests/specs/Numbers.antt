-- Numbers within the limit of a row.
use Rattle.std.specs.Prelude.{nat_le, Bool}
use Rattle.std.specs.List.{list_all}
use Rattle.whips_model.specs.Tuples.{Codes}

abbrev pub are_within : Codes → Bool
are_within t = list_all (λ code. nat_le code 999999999999) t
