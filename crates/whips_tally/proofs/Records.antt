-- What is counted of records whose numbers of rows are known.
use Rattle.std.proofs.Common.{◌≡◌, ℕ, zero, suc, ◌+◌, List, [], ◌∷◌, ◌++◌, length, Option, Some, append-nil, append_assoc, refl, sym, ap, ap₂, ◌∙◌, arith}
use Rattle.std.specs.Prelude.{map, filter, slice_get}
use Rattle.whips_lists.specs.Lists.{places_from}
use Rattle.whips_runs.specs.Records.{RunRecord, version, skip, opened, more, read, expired, full, final, final_rows}
use Rattle.whips_reports.specs.Summary.{is_read, is_more, is_expired}
use Rattle.whips_tally.specs.Tallies.{Tally, counted, is_version}

-- the counts after these records
abbrev pub after : (RunRecord → ℕ) → Tally → List RunRecord → Tally
after rows t [] = t
after rows t (r ∷ rs) = after rows (counted t r (rows r)) rs

pub after_join : (rows : RunRecord → ℕ) (t : Tally) (rs ss : List RunRecord) → after rows t (rs ++ ss) ≡ after rows (after rows t rs) ss
after_join rows t [] ss = refl
after_join rows t (r ∷ rs) ss = after_join rows (counted t r (rows r)) rs ss

-- each kind is counted
pub record HasCounted (before after : Tally) (rs : List RunRecord) : Type 0 where
  pub versions : after.versions ≡ before.versions + length (filter is_version rs)
  pub reads : after.reads ≡ before.reads + length (filter is_read rs)
  pub more : after.more ≡ before.more + length (filter is_more rs)
  pub expired : after.expired ≡ before.expired + length (filter is_expired rs)

pub kinds_counted : (rows : RunRecord → ℕ) (t : Tally) (rs : List RunRecord) → HasCounted t (after rows t rs) rs
kinds_counted rows t [] = record { versions = omega arith; reads = omega arith; more = omega arith; expired = omega arith }
kinds_counted rows t (version n cut counts ∷ rs) =
    let h = kinds_counted rows (counted t (version n cut counts) (rows (version n cut counts))) rs in
    record { versions = omega (arith, h.versions); reads = omega (arith, h.reads); more = omega (arith, h.more); expired = omega (arith, h.expired) }
kinds_counted rows t (skip k e ∷ rs) =
    let h = kinds_counted rows (counted t (skip k e) (rows (skip k e))) rs in
    record { versions = omega (arith, h.versions); reads = omega (arith, h.reads); more = omega (arith, h.more); expired = omega (arith, h.expired) }
kinds_counted rows t (opened s v phase ∷ rs) =
    let h = kinds_counted rows (counted t (opened s v phase) (rows (opened s v phase))) rs in
    record { versions = omega (arith, h.versions); reads = omega (arith, h.reads); more = omega (arith, h.more); expired = omega (arith, h.expired) }
kinds_counted rows t (more s x v phase slots ∷ rs) =
    let h = kinds_counted rows (counted t (more s x v phase slots) (rows (more s x v phase slots))) rs in
    record { versions = omega (arith, h.versions); reads = omega (arith, h.reads); more = omega (arith, h.more); expired = omega (arith, h.expired) }
kinds_counted rows t (read s x v phase ∷ rs) =
    let h = kinds_counted rows (counted t (read s x v phase) (rows (read s x v phase))) rs in
    record { versions = omega (arith, h.versions); reads = omega (arith, h.reads); more = omega (arith, h.more); expired = omega (arith, h.expired) }
kinds_counted rows t (expired s x v phase ∷ rs) =
    let h = kinds_counted rows (counted t (expired s x v phase) (rows (expired s x v phase))) rs in
    record { versions = omega (arith, h.versions); reads = omega (arith, h.reads); more = omega (arith, h.more); expired = omega (arith, h.expired) }
kinds_counted rows t (full shortage ∷ rs) =
    let h = kinds_counted rows (counted t (full shortage) (rows (full shortage))) rs in
    record { versions = omega (arith, h.versions); reads = omega (arith, h.reads); more = omega (arith, h.more); expired = omega (arith, h.expired) }
kinds_counted rows t (final counts ∷ rs) =
    let h = kinds_counted rows (counted t (final counts) (rows (final counts))) rs in
    record { versions = omega (arith, h.versions); reads = omega (arith, h.reads); more = omega (arith, h.more); expired = omega (arith, h.expired) }
kinds_counted rows t (final_rows x ∷ rs) =
    let h = kinds_counted rows (counted t (final_rows x) (rows (final_rows x))) rs in
    record { versions = omega (arith, h.versions); reads = omega (arith, h.reads); more = omega (arith, h.more); expired = omega (arith, h.expired) }

-- the views at the end are counted one after another
finals_counted : (rows : RunRecord → ℕ) (t : Tally) (xs : List ℕ) → (after rows t (map final_rows xs)).rows ≡ t.rows ++ map (λ x. rows (final_rows x)) xs
finals_counted rows t [] = sym (append-nil t.rows)
finals_counted rows t (x ∷ xs) =
    finals_counted rows (counted t (final_rows x) (rows (final_rows x))) xs ∙ append_assoc t.rows (rows (final_rows x) ∷ []) (map (λ x. rows (final_rows x)) xs)

pub end_counted : (rows : RunRecord → ℕ) (t : Tally) (rs : List RunRecord) (counts xs : List ℕ) → (after rows t (rs ++ final counts ∷ map final_rows xs)).rows ≡ map (λ x. rows (final_rows x)) xs
end_counted rows t rs counts xs =
    ap (λ (z : Tally). z.rows) (after_join rows t rs (final counts ∷ map final_rows xs)) ∙ finals_counted rows (counted (after rows t rs) (final counts) (rows (final counts))) xs

-- a list by its places
pub by_place : {A B : Type 0} (xs : List A) (k : ℕ) (h : ℕ → B) (g : A → B) → ((i : ℕ) (a : A) → slice_get xs i ≡ Some a → h (k + i) ≡ g a) → map h (places_from k (length xs)) ≡ map g xs
by_place [] k h g same = refl
by_place (x ∷ xs) k h g same =
    let here : k + 0 ≡ k = omega arith in
    ap₂ (λ b bs. b ∷ bs) (ap h (sym here) ∙ same 0 x refl)
    (by_place xs (suc k) h g (λ i a e. let there : suc k + i ≡ k + suc i = omega arith in ap h there ∙ same (suc i) a e))
