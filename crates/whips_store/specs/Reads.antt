-- What a reader's calls say by their log.
use Rattle.std.specs.Prelude.{◌≡◌, ℕ, List, ◌++◌, length}
use Rattle.std.proofs.Common.{sym, ◌∙◌}
use Rattle.whips_vnl.specs.Records.{Seen}
use Rattle.whips_store.specs.Stores.{StoreState, seen_in}

-- the pairs of place and word that the calls of a reader were answered by
abbrev pub Log : Type 0
Log = List (ℕ × ℕ)

-- that a call which begins at a place of the log gave this phase, and which place comes after it
abbrev pub PhaseSays : Type 0 → Type 1
PhaseSays B = (base : B) (log : Log) (at phase next : ℕ) → Type 0

-- that a call which begins at a place of the log saw this in a slot of a view at a version, and which place comes after it
abbrev pub RowSays : Type 0 → Type 1
RowSays B = (base : B) (log : Log) (at x i v : ℕ) (seen : Seen) (next : ℕ) → Type 0

-- The log went on, and its entries say the answer.
pub record PhaseSaid {B : Type 0} (says : PhaseSays B) (base : B) (old new : Log) (phase : ℕ) : Type 0 where
  pub rest : Log
  pub goes_on : new ≡ old ++ rest
  pub said : says base new (length old) phase (length new)

pub record RowSaid {B : Type 0} (says : RowSays B) (base : B) (old new : Log) (x i v : ℕ) (seen : Seen) : Type 0 where
  pub rest : Log
  pub goes_on : new ≡ old ++ rest
  pub said : says base new (length old) x i v seen (length new)

-- What holds of a log holds of every log that begins with it.
abbrev pub PhaseStays : {B : Type 0} → PhaseSays B → Type 0
PhaseStays {B} says = (base : B) (log more : Log) (at phase next : ℕ) → says base log at phase next → says base (log ++ more) at phase next

abbrev pub RowStays : {B : Type 0} → RowSays B → Type 0
RowStays {B} says = (base : B) (log more : Log) (at x i v : ℕ) (seen : Seen) (next : ℕ) → says base log at x i v seen next → says base (log ++ more) at x i v seen next

-- The other arguments determine the answer and the place after the call's entries.
abbrev pub PhaseIsDetermined : {B : Type 0} → PhaseSays B → Type 0
PhaseIsDetermined {B} says = (base : B) (log : Log) (at p q next after : ℕ) → says base log at p next → says base log at q after → (p ≡ q) × (next ≡ after)

abbrev pub RowIsDetermined : {B : Type 0} → RowSays B → Type 0
RowIsDetermined {B} says = (base : B) (log : Log) (at x i v : ℕ) (seen other : Seen) (next after : ℕ) → says base log at x i v seen next → says base log at x i v other after → (seen ≡ other) × (next ≡ after)

-- ---- a store that stands still: no entry, and the answers are the store's

abbrev pub still_phase_says : PhaseSays StoreState
still_phase_says s log at phase next = (phase ≡ s.phase) × (next ≡ at)

abbrev pub still_row_says : RowSays StoreState
still_row_says s log at x i v seen next = (seen ≡ seen_in s x i v) × (next ≡ at)

pub still_phase_stays : PhaseStays still_phase_says
still_phase_stays s log more at phase next h = h

pub still_row_stays : RowStays still_row_says
still_row_stays s log more at x i v seen next h = h

pub still_phase_is_determined : PhaseIsDetermined still_phase_says
still_phase_is_determined s log at p q next after h g = (h.0 ∙ sym g.0, h.1 ∙ sym g.1)

pub still_row_is_determined : RowIsDetermined still_row_says
still_row_is_determined s log at x i v seen other next after h g = (h.0 ∙ sym g.0, h.1 ∙ sym g.1)
