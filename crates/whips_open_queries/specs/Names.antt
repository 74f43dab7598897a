-- The names of open queries, and their order.
use Rattle.std.specs.Prelude.{◌≡◌, ℕ, suc, if◌then◌else◌, List, [], ◌∷◌, Option, Some, None}
use Rattle.std.specs.Option.{option_map}
use Rattle.std.specs.List.{AllByRecursion}
use Rattle.std.specs.declared.cmp.Ordering.TheVariants.{Less}
use Rattle.whips_model.specs.Tuples.{Codes, codes_cmp}
use Rattle.whips_managers.specs.Managers.{Query, is_named}

-- The name of a query as codes: its transaction and its origin. They are ordered by the transaction first.
abbrev pub name_codes : Query → Codes
name_codes q = q.transaction ∷ q.origin ∷ []

-- The query's name is below this one.
abbrev pub IsNamedBelow : Codes → Query → Type 0
IsNamedBelow name q = codes_cmp (name_codes q) name ≡ Less

-- The queries come in the order of their names, no name twice.
abbrev pub AreInOrder : List Query → Type 0
AreInOrder [] = Unit {0}
AreInOrder (q ∷ queries) = AllByRecursion (λ r. IsNamedBelow (name_codes r) q) queries × AreInOrder queries

-- The place of the first query with this name.
abbrev pub place_named : ℕ → ℕ → List Query → Option ℕ
place_named transaction origin [] = None
place_named transaction origin (q ∷ queries) = if is_named transaction origin q then Some 0 else option_map (λ i. suc i) (place_named transaction origin queries)
