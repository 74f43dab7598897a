-- The phases that a run prints never fall, and none is above the phase now. Every event keeps this.
use Rattle.std.proofs.Common.{◌≡◌, ℕ, zero, suc, ◌-◌, ◌<◌, ◌≤◌, List, [], ◌∷◌, ◌++◌, length, Option, Some, None, sym, ap, subst, arith, append_assoc}
use Rattle.std.specs.Prelude.{slice_index_or}
use Rattle.std.specs.List.{AllByRecursion}
use Rattle.std.specs.List.Sorted.{IsNonDecreasing}
use Rattle.std.proofs.lemmas.List.{append-nil, flat_map_more}
use Rattle.std.proofs.lemmas.List.Sorted.{IsNonDecreasingBy-push}
use Rattle.whips_lists.specs.Lists.{front}
use Rattle.whips_lists.proofs.Alls.{all_more}
use Rattle.whips_flow.specs.Facts.{Facts}
use Rattle.whips_flow.specs.State.{Writer, Pipeline, oldest_message, oldest_manager_message, oldest_list, with_source, with_manager}
use Rattle.whips_flow.specs.Effects.{without_message, without_manager_message, next_cut, after_begin}
use Rattle.whips_flow.specs.Progress.{next}
use Rattle.whips_flow.specs.declared.event.Event.{Event}
use Rattle.whips_flow.specs.declared.event.Event.TheVariants.{Commit, Answer, Integrate, Manage, Rel, Act, Begin, Change, Publish, SessionOpen, SessionScan, SessionFetch, SessionClose}
use Rattle.whips_runs.specs.Records.{RunRecord}
use Rattle.whips_headline_laws.specs.Headline.{phase_on, printed_phases}
use Rattle.whips_headline_laws.proofs.Counts.{integrated_writer, message_writer, rel_writer, act_writer}

-- ---- the phase of the writer

same_phase : (w v : Writer) → v ≡ w → w.phase ≤ v.phase
same_phase w v e = omega (arith, ap (λ (z : Writer). z.phase) e)

begin_phase : (f : Facts) (o : Option (List ℕ)) (p : Pipeline) → p.writer.phase ≤ (after_begin f o p).writer.phase
begin_phase f None p = omega arith
begin_phase f (Some cut) p = omega arith

-- no event lowers it
pub later_phase : (f : Facts) (p : Pipeline) (e : Event) → p.writer.phase ≤ (next f p e).writer.phase
later_phase f p (Commit y) = omega arith
later_phase f p (Answer y x) = omega arith
later_phase f p (Integrate y) = same_phase p.writer (next f p (Integrate y)).writer (integrated_writer f y (oldest_message p y) (with_source y without_message p))
later_phase f p (Manage x) = same_phase p.writer (next f p (Manage x)).writer (message_writer f x (oldest_manager_message p x) (with_manager x without_manager_message p))
later_phase f p Rel = same_phase p.writer (next f p Rel).writer (rel_writer (front p.announcements) p)
later_phase f p (Act x) = same_phase p.writer (next f p (Act x)).writer (act_writer x (oldest_list p x) p)
later_phase f p Begin = begin_phase f (next_cut p) p
later_phase f p Change = omega arith
later_phase f p Publish = omega arith
later_phase f p (SessionOpen s) = omega arith
later_phase f p (SessionScan s x) = omega arith
later_phase f p (SessionFetch s n) = omega arith
later_phase f p (SessionClose s) = omega arith

-- ---- the printed phases

pub record ArePhases (now : ℕ) (phases : List ℕ) : Type 0 where
  pub rising : IsNonDecreasing phases
  pub passed : AllByRecursion (λ phase. phase ≤ now) phases

within : (now : ℕ) (xs : List ℕ) (i d : ℕ) → AllByRecursion (λ phase. phase ≤ now) xs → i < length xs → slice_index_or xs i d ≤ now
within now [] i d h lt = absurd (omega arith)
within now (x ∷ xs) zero d h lt = h.0
within now (x ∷ xs) (suc i) d h lt = within now xs i d h.1 (omega arith)

-- the phase now, again and again
phases_more : (now : ℕ) (xs ys : List ℕ) → ArePhases now xs → AllByRecursion (λ phase. phase ≡ now) ys → ArePhases now (xs ++ ys)
phases_more now xs [] h same = subst (ArePhases now) (sym (append-nil xs)) h
phases_more now xs (y ∷ ys) h same = subst (ArePhases now) (append_assoc xs (y ∷ []) ys) (phases_more now (xs ++ y ∷ []) ys (record {
  rising = IsNonDecreasingBy-push (λ x. x) xs y h.rising (λ d lt. omega (arith, within now xs (length xs - 1) d h.passed (omega (arith, lt)), same.0));
  passed = all_more (λ phase. phase ≤ now) xs y h.passed (omega (arith, same.0));
}) same.1)

-- one more record, of no other phase
pub phases_push : (now : ℕ) (records : List RunRecord) (r : RunRecord) → AllByRecursion (λ phase. phase ≡ now) (phase_on r) → ArePhases now (printed_phases records) → ArePhases now (printed_phases (records ++ r ∷ []))
phases_push now records r same h = subst (ArePhases now) (flat_map_more phase_on [] records r) (phases_more now (printed_phases records) (phase_on r) h same)

all_later : (now later : ℕ) → now ≤ later → (xs : List ℕ) → AllByRecursion (λ phase. phase ≤ now) xs → AllByRecursion (λ phase. phase ≤ later) xs
all_later now later le [] h = tt
all_later now later le (x ∷ xs) h = (omega (arith, le, h.0), all_later now later le xs h.1)

pub phases_later : (now later : ℕ) → now ≤ later → (xs : List ℕ) → ArePhases now xs → ArePhases later xs
phases_later now later le xs h = record { rising = h.rising; passed = all_later now later le xs h.passed }
