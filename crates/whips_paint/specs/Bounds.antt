-- How far a set of rows leads, view by view and source by source.
use Rattle.std.specs.Prelude.{◌≡◌, ℕ, Bool, true, false, ◌&&◌, ◌==◌, nat_lt, nat_le, not, filter, List, [], ◌∷◌, ◌++◌, ◌⊎◌, slice_get, Option, Some, None, if◌then◌else◌}
use Rattle.std.specs.List.{list_any, list_all}
use Rattle.whips_flow.specs.Painted.{Colour, black, white, red, Row, needs, entry_needs, is_concerned}
use Rattle.whips_paint.specs.declared.bounds.Side.{Side}
use Rattle.whips_paint.specs.declared.bounds.Side.TheVariants.{Needed, Needing}
use Rattle.whips_paint.specs.declared.bounds.Bound.{Bound}
use Rattle.whips_paint.specs.declared.bounds.Bound.TheVariants.{View, Source}

-- whether one row leads to another: to each that it needs, or to each that needs it
abbrev pub leads : Side → Row → Row → Bool
leads Needed r q = needs r q
leads Needing r q = needs q r

-- whether rows up to m, or from m on, lead to the row n that has this entry in their view
abbrev pub view_draws : Option Colour → Side → ℕ → ℕ → Bool
view_draws None side n m = false
view_draws (Some c) Needed n m = is_concerned (Some c) && nat_le n m
view_draws (Some c) Needing n m = entry_needs n c m

-- whether a row m leads to row n of its source
abbrev pub source_draws : Side → ℕ → ℕ → Bool
source_draws Needed n m = nat_lt n m
source_draws Needing n m = nat_lt m n

abbrev pub bound_draws : Side → Row → Bound → Bool
bound_draws side q (View x m) = view_draws (slice_get q.entries x) side q.number m
bound_draws side q (Source s m) = s == q.source && source_draws side q.number m

-- whether some bound leads to row q
abbrev pub draws : Side → List Bound → Row → Bool
draws side bounds q = list_any (bound_draws side q) bounds

abbrev pub is_as_far : Side → ℕ → ℕ → Bool
is_as_far Needed m n = nat_le n m
is_as_far Needing m n = nat_le m n

-- whether one bound leads to all rows to which another one leads
abbrev pub covers : Side → Bound → Bound → Bool
covers side (View x m) (View y n) = x == y && is_as_far side m n
covers side (View x m) (Source s n) = false
covers side (Source s m) (View y n) = false
covers side (Source s m) (Source t n) = s == t && is_as_far side m n

abbrev pub bound_number : Bound → ℕ
bound_number (View x m) = m
bound_number (Source s m) = m

-- whether the numbers of all bounds are below n, so that none leads to a row from n on
abbrev pub is_past : Side → List Bound → ℕ → Bool
is_past Needed bounds n = list_all (λ b. nat_lt (bound_number b) n) bounds
is_past Needing bounds n = false

-- the bounds that the new one doesn't cover
abbrev pub uncovered : Side → Bound → List Bound → List Bound
uncovered side b bounds = filter (λ own. not (covers side b own)) bounds

-- the bounds with one more in the place of those that it covers, where none covers it
abbrev pub noted : Side → Bound → List Bound → List Bound
noted side b bounds = if list_any (λ own. covers side own b) bounds then bounds else uncovered side b bounds ++ b ∷ []

-- how far row n leads in a view, by its entry
abbrev pub entry_bound : Colour → Side → ℕ → Option ℕ
entry_bound black side n = None
entry_bound white side n = Some n
entry_bound (red j) Needed n = Some j
entry_bound (red j) Needing n = Some n

abbrev pub option_bound : Option Colour → Side → ℕ → Option ℕ
option_bound None side n = None
option_bound (Some c) side n = entry_bound c side n

abbrev pub row_bound : Side → Row → ℕ → Option ℕ
row_bound side r x = option_bound (slice_get r.entries x) side r.number

-- the new bounds lead to what the old ones led to and to what row r leads to
pub record IsNoted (side : Side) (r : Row) (old new : List Bound) : Type 0 where
  pub kept : (q : Row) → draws side old q ≡ true → draws side new q ≡ true
  pub sound : (q : Row) → draws side new q ≡ true → (draws side old q ≡ true) ⊎ (leads side r q ≡ true)
  pub full : (q : Row) → leads side r q ≡ true → draws side new q ≡ true
