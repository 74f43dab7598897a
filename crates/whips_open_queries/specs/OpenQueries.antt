-- Open queries over one list of deletions.
use Rattle.std.specs.Prelude.{◌≡◌, ℕ, ◌≤◌, List, [], map, drop, length}
use Rattle.std.specs.List.{AllByRecursion}
use Rattle.whips_model.specs.Tuples.{Codes}
use Rattle.whips_managers.specs.Managers.{Query}
use Rattle.whips_open_queries.specs.declared.queries.OpenQuery.{OpenQuery}
use Rattle.whips_open_queries.specs.Names.{AreInOrder}

-- The query, whose pending deletions are those behind the ones that came before it began.
abbrev pub query_of : List (ℕ × Codes) → OpenQuery → Query
query_of deleted q = record { transaction = q.transaction; origin = q.origin; step = q.step; seeds = q.seeds; partials = q.partials; pending = drop q.since deleted }

-- The queries are in order, and each began after at most so many deletions as there are. Where no query is open, no deletion is kept.
pub record AreOver (deleted : List (ℕ × Codes)) (items : List OpenQuery) : Type 0 where
  pub in_order : AreInOrder (map (query_of deleted) items)
  pub since : AllByRecursion (λ q. q.since ≤ length deleted) items
  pub dropped : items ≡ [] → deleted ≡ []
