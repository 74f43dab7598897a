-- Numbers within the limit of a row.
use Rattle.std.specs.Prelude.{nat_le, Bool, true}
use Rattle.std.specs.List.{list_all}
use Rattle.whips_model.specs.Tuples.{Codes}
use Rattle.whips_rel.specs.declared.update.Change.{Change}
use Rattle.whips_rel.specs.declared.update.Change.TheVariants.{Add, Replace, Remove}

abbrev pub are_within : Codes → Bool
are_within t = list_all (λ code. nat_le code 999999999999) t

-- Whether the row that comes is within the limit.
abbrev pub brings_within : Change → Bool
brings_within (Add t) = are_within t
brings_within (Replace t) = are_within t
brings_within (Remove k) = true
