-- The headline: what the report of every run says. A report is a list of lines, and each line is a record with its rows.
use Rattle.std.specs.Prelude.{◌≡◌, ℕ, suc, ◌<◌, ◌≤◌, ◌/◌, ◌⊎◌, ◌==◌, Bool, true, false, List, [], ◌∷◌, ◌++◌, length, map, fold, slice_get, slice_index, Option, Some, None, if◌then◌else◌}
use Rattle.std.specs.List.{AllByRecursion, flat_map}
use Rattle.std.specs.List.Sorted.{IsNonDecreasing}
use Rattle.std.specs.Option.{option_and_then}
use Rattle.whips_flow.specs.Facts.{Shortage}
use Rattle.whips_lists.specs.Lists.{places_from}
use Rattle.whips_flow.specs.Staleness.{is_stale}
use Rattle.whips_runs.specs.Records.{RunRecord, version, opened, more, read, expired, full, final, final_rows}
use Rattle.whips_facts.specs.Scripts.{Script, SlottedView, value_at, view_at, slotted_views}
use Rattle.whips_reports.specs.Reported.{Reported}
use Rattle.whips_cut_laws.specs.Cuts.{AllAdvance}

-- ---- what a reader knows at some line, from the records before it

-- the cut that a version's record prints
abbrev pub cut_on : RunRecord → List (List ℕ)
cut_on (version number cut row_counts) = cut ∷ []
cut_on _ = []

-- the printed cuts: the one at place v is that of version v
abbrev pub printed_cuts : List RunRecord → List (List ℕ)
printed_cuts records = flat_map cut_on records

-- the version at which the record opens the session, or else the one before it
abbrev pub version_after : ℕ → Option ℕ → RunRecord → Option ℕ
version_after session before (opened s v phase) = if s == session then Some v else before
version_after session before _ = before

-- the version of a session: the one at which it was opened last
abbrev pub version_of : ℕ → List RunRecord → Option ℕ
version_of session records = fold (version_after session) None records

-- the cut of a session: the one that is printed for its version
abbrev pub cut_of : ℕ → List RunRecord → Option (List ℕ)
cut_of session records = option_and_then (slice_get (printed_cuts records)) (version_of session records)

-- the phase is that of the last version: twice its number, or 1 more while a maintenance transaction is active; 2VNL 1997
abbrev pub IsNow : List RunRecord → (phase : ℕ) → Type 0
IsNow records phase = suc (phase / 2) ≡ length (printed_cuts records)

-- the phase that a session's record prints
abbrev pub phase_on : RunRecord → List ℕ
phase_on (opened session v phase) = phase ∷ []
phase_on (more session x v phase slots) = phase ∷ []
phase_on (read session x v phase) = phase ∷ []
phase_on (expired session x v phase) = phase ∷ []
phase_on _ = []

-- the printed phases, in the order of their lines
abbrev pub printed_phases : List RunRecord → List ℕ
printed_phases records = flat_map phase_on records

-- ---- what is true of a line

-- of each element of a list and those before it
abbrev pub EachAfter : {A : Type 0} → (List A → A → Type 0) → List A → Type 0
EachAfter {A} P xs = (before after : List A) (x : A) → xs ≡ before ++ x ∷ after → P before x

abbrev pub records_of : List Reported → List RunRecord
records_of report = map (λ line. line.entry) report

-- the rows of a read are its view's value on the cut of its session
abbrev pub ReadsItsCut : Script → List Reported → Reported → Type 0
ReadsItsCut s before line = (session x v phase : ℕ) → line.entry ≡ read session x v phase
    → (view : SlottedView) × (cut : List ℕ) × (slice_get (slotted_views s) x ≡ Some view)
    × (cut_of session (records_of before) ≡ Some cut) × (line.rows ≡ value_at s view.view cut)

-- a version has the next number, and a session opens at the last version; 2VNL 1997
abbrev pub IsNumbered : List RunRecord → RunRecord → Type 0
IsNumbered before (version number cut row_counts) = number ≡ length (printed_cuts before)
IsNumbered before (opened session v phase) = (v ≡ phase / 2) × IsNow before phase
IsNumbered before _ = Unit {0}

-- a fetch has the version of its session and the phase that is now, and its session is stale there or isn't; nVNL 1997
abbrev pub IsFetch : (versions : ℕ) → List RunRecord → (session v phase : ℕ) → (stale : Bool) → Type 0
IsFetch versions before session v phase stale =
    (version_of session before ≡ Some v) × IsNow before phase × (is_stale versions v phase ≡ stale)

-- only the fetches of stale sessions answer Expired, and all of these do
abbrev pub ExpiresByRule : (versions : ℕ) → List RunRecord → RunRecord → Type 0
ExpiresByRule versions before (more session x v phase slots) = IsFetch versions before session v phase false
ExpiresByRule versions before (read session x v phase) = IsFetch versions before session v phase false
ExpiresByRule versions before (expired session x v phase) = IsFetch versions before session v phase true
ExpiresByRule versions before _ = Unit {0}

-- a version counts the rows of each view's value on its cut
abbrev pub CountsRows : Script → RunRecord → Type 0
CountsRows s (version number cut row_counts) =
    row_counts ≡ map (λ view. length (value_at s view.view cut)) (slotted_views s)
CountsRows s _ = Unit {0}

-- a fetch that leaves its scan open has visited a slot of the view at least, and not all of them. A scan begins without a line, so
-- the lines tell no more; `MoreCountsSlots` tells how many, by the events
abbrev pub LeavesSlots : Script → RunRecord → Type 0
LeavesSlots s (more session x v phase slots) =
    (view : SlottedView) × (slice_get (slotted_views s) x ≡ Some view) × (0 < slots) × (slots < view.slots)
LeavesSlots s _ = Unit {0}

-- ---- prefixes of the sources, and the end

-- the cut of all transactions
abbrev pub whole_cut : Script → List ℕ
whole_cut s = map length s.work

-- the cut counts some first transactions of each source
abbrev pub IsPrefix : Script → List ℕ → Type 0
IsPrefix s cut = (length cut ≡ length s.work) × ((y : ℕ) → slice_index cut y ≤ slice_index (whole_cut s) y)

-- a view has too few slots, which ended the run
abbrev pub EndsFull : List RunRecord → Type 0
EndsFull records = (before : List RunRecord) × (shortage : Shortage) × (records ≡ before ++ full shortage ∷ [])

abbrev pub final_line : Script → ℕ → Reported
final_line s x = record { entry = final_rows x; rows = value_at s (view_at s x) (whole_cut s) }

-- the number of all transactions of each source, and each view's value on all of them
abbrev pub final_lines : Script → List Reported
final_lines s = record { entry = final (whole_cut s); rows = [] } ∷ map (final_line s) (places_from 0 (length (slotted_views s)))

-- the values of the views on the last version's cut are those on all transactions, and the report ends with these
pub record EndsAtFinalSources (s : Script) (report : List Reported) : Type 0 where
  pub before : List Reported
  pub lines : report ≡ before ++ final_lines s
  pub earlier : List (List ℕ)
  pub last : List ℕ
  pub printed : printed_cuts (records_of before) ≡ earlier ++ last ∷ []
  pub views : AllByRecursion (λ view. value_at s view.view last ≡ value_at s view.view (whole_cut s)) (slotted_views s)

-- ---- the headline; own

pub record Headline (s : Script) (report : List Reported) : Type 0 where
  -- everything that an unexpired session reads, over all views together, is the views' from-scratch value on one cut,
  -- that of the version which was the last one when the session was opened;
  pub reads : EachAfter (ReadsItsCut s) report
  pub numbers : EachAfter IsNumbered (records_of report)
  -- it is a prefix of each source's transactions;
  pub prefixes : AllByRecursion (IsPrefix s) (printed_cuts (records_of report))
  -- later versions have later cuts;
  pub later : AllAdvance (printed_cuts (records_of report))
  -- a read answers Expired exactly when the rule makes its session stale;
  pub expires : EachAfter (ExpiresByRule s.setup.versions) (records_of report)
  -- a version tells how many rows each view has on its cut;
  pub row_counts : AllByRecursion (CountsRows s) (records_of report)
  -- phases never fall from line to line;
  pub phases : IsNonDecreasing (printed_phases (records_of report))
  -- a fetch that leaves its scan open has visited some slots of the view and not all;
  pub slots : AllByRecursion (LeavesSlots s) (records_of report)
  -- and once nothing is in flight, where every run ends that isn't full, the views are those of the final sources
  pub end : EndsFull (records_of report) ⊎ EndsAtFinalSources s report
