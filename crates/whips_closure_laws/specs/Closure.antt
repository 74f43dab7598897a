-- What the closure of a row is.
use Rattle.std.specs.Prelude.{◌≡◌, ℕ, ◌<◌, ◌⊎◌, ◌↔◌, true, List, slice_get, Some, map}
use Rattle.std.specs.List.{AllByRecursion}
use Rattle.whips_flow.specs.Painted.{Row, Colour, entry_needs, is_concerned, needs, has_number, closure}

-- with each of its rows the set has each row of the table that this one needs; own
abbrev pub IsClosed : List Row → List ℕ → Type 0
IsClosed rows numbers = AllByRecursion (λ r. has_number numbers r.number ≡ true → AllByRecursion (λ q. needs r q ≡ true → has_number numbers q.number ≡ true) rows) rows

-- the numbers are those of the least closed set of the table's rows that has row i; own
pub record IsLeastClosed (rows : List Row) (i : ℕ) (numbers : List ℕ) : Type 0 where
  pub own : has_number numbers i ≡ true
  pub present : (n : ℕ) → has_number numbers n ≡ true → has_number (map (λ r. r.number) rows) n ≡ true
  pub closed : IsClosed rows numbers
  pub least : (other : List ℕ) → has_number other i ≡ true → IsClosed rows other → (n : ℕ) → has_number numbers n ≡ true → has_number other n ≡ true

-- of any table, whatever the order and the numbers of its rows
abbrev pub ClosureIsLeast : Type 0
ClosureIsLeast = (rows : List Row) → AllByRecursion (λ r. IsLeastClosed rows r.number (closure rows r.number)) rows

-- the entry of r for view x needs q, and q concerns x
pub record NeedsAt (r q : Row) (x : ℕ) : Type 0 where
  pub mine : Colour
  pub its : Colour
  pub mine_is : slice_get r.entries x ≡ Some mine
  pub its_is : slice_get q.entries x ≡ Some its
  pub concerned : is_concerned (Some its) ≡ true
  pub needed : entry_needs r.number mine q.number ≡ true

-- r needs q exactly where some entry of r needs it or q is an earlier row of r's source; own
abbrev pub NeedsAreEntries : Type 0
NeedsAreEntries = (r q : Row) → (needs r q ≡ true) ↔ (((x : ℕ) × NeedsAt r q x) ⊎ ((r.source ≡ q.source) × (q.number < r.number)))
