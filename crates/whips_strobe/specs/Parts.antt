-- The tuples of one part among tuples that each have their part.
use Rattle.std.specs.Prelude.{ℕ, ◌==◌, List, map}
use Rattle.std.specs.List.{filter}
use Rattle.whips_model.specs.Tuples.{Codes}

abbrev pub tuples_at : ℕ → List (ℕ × Codes) → List Codes
tuples_at part entries = map (λ e. e.1) (filter (λ e. e.0 == part) entries)
