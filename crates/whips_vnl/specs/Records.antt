-- The versions of a row, and what they show to a session.
use Rattle.std.specs.Prelude.{◌≡◌, ◌≢◌, ℕ, ◌+◌, ◌/◌, ◌<◌, ◌≤◌, Bool, true, false, not, nat_le, nat_lt, List, [], ◌∷◌, length, find, take, Option, Some, None, is_some, if◌then◌else◌}
use Rattle.std.specs.List.{All, AllPairs}
use Rattle.whips_model.specs.Tuples.{Codes}
use Rattle.whips_rel.specs.declared.update.Change.{Change}
use Rattle.whips_rel.specs.declared.update.Change.TheVariants.{Add, Replace, Remove}
use Rattle.whips_flow.specs.Staleness.{IsStale}
use Rattle.whips_vnl.specs.declared.record.Op.{Op}
use Rattle.whips_vnl.specs.declared.record.Op.TheVariants.{Added, Replaced, Removed}
use Rattle.whips_vnl.specs.declared.record.Vstep.{Vstep}
use Rattle.whips_vnl.specs.declared.record.Shown.{Shown}
use Rattle.whips_vnl.specs.declared.record.Shown.TheVariants as answer

-- ---- records

-- the steps before the first empty place
abbrev pub leading_steps : List (Option Vstep) → List Vstep
leading_steps [] = []
leading_steps (None ∷ places) = []
leading_steps (Some s ∷ places) = s ∷ leading_steps places

abbrev pub is_removed : Op → Bool
is_removed Added = false
is_removed Replaced = false
is_removed Removed = true

-- A record has a step at least, its versions fall from step to step, and a step has a row exactly where it isn't a removal; nVNL 1997.
pub record IsRecord (steps : List Vstep) : Type 0 where
  pub some : 0 < length steps
  pub falling : AllPairs (λ s older. older.vn < s.vn) steps
  pub rows : All (λ s. is_some s.row ≡ not (is_removed s.op)) steps

-- ---- visibility

-- what a session sees of a row: its codes, that it isn't there, or that its version isn't kept any more
pub data Seen : Type 0 where
  seen_row : Codes → Seen
  seen_nothing : Seen
  seen_past : Seen

-- the newest step with a version at most v
abbrev pub step_for : ℕ → List Vstep → Option Vstep
step_for v steps = find (λ s. nat_le s.vn v) steps

abbrev pub seen_of_row : Option Codes → Seen
seen_of_row None = seen_nothing
seen_of_row (Some t) = seen_row t

-- what is seen by the step that serves, where there is one, in a record of that many steps
abbrev pub seen_by : ℕ → ℕ → Option Vstep → Seen
seen_by n kept None = if nat_lt kept n then seen_nothing else seen_past
seen_by n kept (Some s) = seen_of_row s.row

-- What n kept steps show at version v: the row of the newest step with a version at most v, nothing where it removed the row; without such a step nothing where fewer than n steps are kept, and past otherwise; nVNL 1997. No steps are no record.
abbrev pub visible : ℕ → ℕ → List Vstep → Seen
visible n v steps = seen_by n (length steps) (step_for v steps)

-- the answer that stands for what is seen
abbrev pub shown_of : Seen → Shown
shown_of (seen_row t) = answer.Row
shown_of seen_nothing = answer.Nothing
shown_of seen_past = answer.Past

-- ---- a change

-- the step that a change of a row makes at version vn; 2VNL 1997
abbrev pub step_of : ℕ → Change → Vstep
step_of vn (Add t) = record { vn = vn; op = Added; row = Some t }
step_of vn (Replace t) = record { vn = vn; op = Replaced; row = Some t }
step_of vn (Remove key) = record { vn = vn; op = Removed; row = None }

-- the steps after a change at version vn: the new one first, of all at most the newest n
abbrev pub steps_after : ℕ → ℕ → Change → List Vstep → List Vstep
steps_after n vn change steps = take n (step_of vn change ∷ steps)

-- what the row is after the change
abbrev pub seen_after : Change → Seen
seen_after (Add t) = seen_row t
seen_after (Replace t) = seen_row t
seen_after (Remove key) = seen_nothing

-- the steps of a record, none where there is no record
abbrev pub steps_or_none : Option (List Vstep) → List Vstep
steps_or_none None = []
steps_or_none (Some steps) = steps

-- whether the change may follow: a row comes where none is seen, and changes or goes where one is
abbrev pub is_fitting : Change → Seen → Bool
is_fitting (Add t) seen_nothing = true
is_fitting (Replace t) (seen_row u) = true
is_fitting (Remove key) (seen_row u) = true
is_fitting _ _ = false

-- all versions are below vn
abbrev pub IsBelow : ℕ → List Vstep → Type 0
IsBelow vn steps = All (λ s. s.vn < vn) steps

-- ---- records of a store

-- At a phase no version is above the one that is written then, which is the committed one where no maintenance is active.
abbrev pub IsWithinPhase : ℕ → List Vstep → Type 0
IsWithinPhase phase steps = All (λ s. s.vn ≤ (phase + 1) / 2) steps

-- A version that isn't stale is still kept, whatever the record: nVNL's promise to its readers; nVNL 1997.
abbrev pub LiveVersionsAreKept : Type 0
LiveVersionsAreKept = (n v phase : ℕ) (steps : List Vstep) → 1 ≤ n → AllPairs (λ s older. older.vn < s.vn) steps → IsWithinPhase phase steps → ¬ IsStale n v phase → visible n v steps ≢ seen_past
