-- Why the reports are refused.
use Rattle.std.proofs.Common.{◌≡◌, ℕ, ◌+◌, ◌-◌, ◌*◌, ◌<◌, ◌≤◌, List, [], ◌∷◌, ◌++◌, Some, refl, ap, arith, ◌⊎◌, inl, inr}
use Rattle.std.specs.Prelude.{slice_index}
use Rattle.std.specs.Option.{option_and_then, unwrap_or}
use Rattle.std.proofs.lemmas.Bool.{ltb-true}
use Rattle.whips_flow.specs.Facts.{Shortage}
use Rattle.whips_runs.specs.Records.{RunRecord, version, opened, more, read, expired, full}
use Rattle.whips_facts.specs.Scripts.{Script, SlottedView}
use Rattle.whips_reports.specs.Reported.{Reported}
use Rattle.whips_vectors.specs.Readers.{idle}
use Rattle.whips_lists.proofs.Alls.{all_right}
use Rattle.whips_headline_laws.specs.Headline.{records_of, LeavesSlots, EndsFull, final_lines, EndsAtFinalSources, Headline}
use Rattle.whips_headline_vectors.specs.Wrong.{early_expiry, unopened, endless, falling_phases, last_lines, counting, visiting}

pub expiry : (s : Script) → Headline s early_expiry → ⊥
expiry s h =
    let fetch = h.expires (version 0 [] [] ∷ opened 0 0 0 ∷ []) [] (expired 0 0 0 0) refl in
    absurd (omega (arith, ltb-true (2 * 0 + 2 * (s.setup.versions - 1)) 0 fetch.2))

pub opening : (s : Script) → Headline s unopened → ⊥
opening s h = let fetch = h.expires (version 0 [] [] ∷ []) [] (read 0 0 0 0) refl in let e = fetch.0 in absurd (cc)

pub phases : (s : Script) → Headline s falling_phases → ⊥
phases s h =
    let both : 1 < 2 = omega arith in
    let fall : 1 ≤ 0 = h.phases 0 1 0 (omega arith) both in
    absurd (omega (arith, fall))

pub counts : (rows : ℕ) → 0 < rows → Headline idle (counting rows) → ⊥
counts rows some h =
    let none : rows ≡ 0 = ap (λ z. slice_index z 0) h.row_counts.0 in
    absurd (omega (arith, some, none))

visit : (slots : ℕ) → Headline idle (visiting slots) → LeavesSlots idle (more 0 0 0 0 slots)
visit slots h = (all_right (LeavesSlots idle) (version 0 (0 ∷ 0 ∷ []) (0 ∷ []) ∷ opened 0 0 0 ∷ []) (more 0 0 0 0 slots ∷ records_of last_lines) h.slots).0

pub no_slots : Headline idle (visiting 0) → ⊥
no_slots h = absurd (omega (arith, (visit 0 h).2))

pub all_slots : (slots : ℕ) → 4 ≤ slots → Headline idle (visiting slots) → ⊥
all_slots slots all h =
    let left = visit slots h in
    let four : 4 ≡ left.0.slots = ap (λ o. unwrap_or (option_and_then (λ (z : SlottedView). Some z.slots) o) 0) left.1 in
    absurd (omega (arith, all, left.3, four))

ending : (s : Script) (before : List Reported) → endless ≡ before ++ final_lines s → ⊥
ending s [] e = let q = ap records_of e in absurd (cc)
ending s (b ∷ []) e = absurd (cc)
ending s (b ∷ c ∷ before) e = absurd (cc)

not_full : (before : List RunRecord) (shortage : Shortage) → records_of endless ≡ before ++ full shortage ∷ [] → ⊥
not_full [] shortage e = absurd (cc)
not_full (b ∷ []) shortage e = absurd (cc)
not_full (b ∷ c ∷ before) shortage e = absurd (cc)

pub no_end : (s : Script) → Headline s endless → ⊥
no_end s h = go h.end
  where
    go : EndsFull (records_of endless) ⊎ EndsAtFinalSources s endless → ⊥
    go (inl short) = not_full short.0 short.1 short.2
    go (inr at) = ending s at.before at.lines
