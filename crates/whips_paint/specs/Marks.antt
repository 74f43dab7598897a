-- Marking all rows that a set of rows leads to.
use Rattle.std.specs.Prelude.{◌≡◌, ℕ, ◌+◌, ◌<◌, Bool, true, false, ◌||◌, not, List, [], ◌∷◌, length, replicate, slice_set, slice_get, slice_index_or, Some, if◌then◌else◌}
use Rattle.whips_flow.specs.Painted.{Row, is_waiting}
use Rattle.whips_paint.specs.declared.bounds.Side.{Side}
use Rattle.whips_paint.specs.declared.bounds.Bound.{Bound}
use Rattle.whips_paint.specs.declared.marks.Mark.{Mark}
use Rattle.whips_paint.specs.declared.marks.Mark.TheVariants.{Clear, Found}
use Rattle.whips_paint.specs.Bounds.{leads, draws}

abbrev pub is_clear : Mark → Bool
is_clear Clear = true
is_clear Found = false

-- the mark with which the search for the rows that aren't ready begins
abbrev pub first_mark : Row → Mark
first_mark r = if is_waiting r then Found else Clear

abbrev pub number_of_pair : Row × Mark → ℕ
number_of_pair p = p.0.number

abbrev pub is_marked_pair : Row × Mark → Bool
is_marked_pair p = not (is_clear p.1)

-- whether a row isn't marked, or waits for no list
abbrev pub is_fit_pair : Row × Mark → Bool
is_fit_pair p = is_clear p.1 || not (is_waiting p.0)

-- the marks with which the search for the closure of the row at a place begins
abbrev pub one_mark : ℕ → ℕ → List Mark
one_mark n k = slice_set (replicate n Clear) k Found

-- whether the row at a place is marked
abbrev pub is_marked : List Mark → ℕ → Bool
is_marked marks k = not (is_clear (slice_index_or marks k Clear))

-- with a row that passes, each row that it leads to passes
abbrev pub IsKept : Side → List Row → (Row → Bool) → Type 0
IsKept side rows test = (k l : ℕ) (r q : Row) → slice_get rows k ≡ Some r → slice_get rows l ≡ Some q → test r ≡ true → leads side r q ≡ true → test q ≡ true

-- the new marks are those of the least set with the old marks that has, with each row, each row that this one leads to
pub record IsSpread (side : Side) (rows : List Row) (old new : List Mark) : Type 0 where
  pub size : length new ≡ length old
  pub kept : (k : ℕ) → is_marked old k ≡ true → is_marked new k ≡ true
  pub full : (k l : ℕ) (r q : Row) → slice_get rows k ≡ Some r → slice_get rows l ≡ Some q → is_marked new k ≡ true → leads side r q ≡ true → is_marked new l ≡ true
  pub least : (test : Row → Bool) → IsKept side rows test → ((k : ℕ) (r : Row) → slice_get rows k ≡ Some r → is_marked old k ≡ true → test r ≡ true) → (k : ℕ) (r : Row) → slice_get rows k ≡ Some r → is_marked new k ≡ true → test r ≡ true

-- ---- on the way there

-- a marked row leads to row q
pub record IsLed (side : Side) (rows : List Row) (marks : List Mark) (q : Row) : Type 0 where
  pub place : ℕ
  pub row : Row
  pub row_is : slice_get rows place ≡ Some row
  pub marked : is_marked marks place ≡ true
  pub led : leads side row q ≡ true

-- the bounds lead to what the marked ones of the first p rows lead to
pub record IsBounded (side : Side) (rows : List Row) (marks : List Mark) (bounds : List Bound) (p : ℕ) : Type 0 where
  pub sound : (q : Row) → draws side bounds q ≡ true → IsLed side rows marks q
  pub full : (k : ℕ) (r q : Row) → k < p → slice_get rows k ≡ Some r → is_marked marks k ≡ true → leads side r q ≡ true → draws side bounds q ≡ true

-- the marks and their bounds on the way from the first marks
pub record IsSpreading (side : Side) (rows : List Row) (first now : List Mark) (bounds : List Bound) : Type 0 where
  pub size : length now ≡ length first
  pub kept : (k : ℕ) → is_marked first k ≡ true → is_marked now k ≡ true
  pub least : (test : Row → Bool) → IsKept side rows test → ((k : ℕ) (r : Row) → slice_get rows k ≡ Some r → is_marked first k ≡ true → test r ≡ true) → (k : ℕ) (r : Row) → slice_get rows k ≡ Some r → is_marked now k ≡ true → test r ≡ true
  pub bounded : IsBounded side rows now bounds (length rows)

-- how many rows are clear
abbrev pub clear_count : List Mark → ℕ
clear_count [] = 0
clear_count (m ∷ marks) = (if is_clear m then 1 else 0) + clear_count marks

-- some more rows are marked, each of which some marked row leads to
pub record IsGrown (side : Side) (rows : List Row) (old new : List Mark) (old_bounds new_bounds : List Bound) : Type 0 where
  pub spreading : (first : List Mark) → IsSpreading side rows first old old_bounds → IsSpreading side rows first new new_bounds
  pub less : clear_count new < clear_count old

-- where the bounds lead to the row at a place, it is marked
abbrev pub IsTold : Side → List Row → List Mark → List Bound → ℕ → Type 0
IsTold side rows marks bounds k = (q : Row) → slice_get rows k ≡ Some q → draws side bounds q ≡ true → is_marked marks k ≡ true

-- nothing is marked
pub record IsSame (old new : List Mark) (old_bounds new_bounds : List Bound) : Type 0 where
  pub marks : new ≡ old
  pub bounds : new_bounds ≡ old_bounds
